-- A search for a name in a table of rows is the library's search for a row. Assumes nothing.
use Rattle.std.proofs.Common.{◌≡◌, ap, ◌∙◌, Option, None, MatchOption, ℕ, Bool, true, false, cond, ◌==◌, ◌&&◌, List, [], ◌∷◌, map, Some, refl, Bor}
use Rattle.std.specs.List.{find}
use Rattle.std.specs.Option.{option_map}
use Rattle.signal.specs.Codes.{row_of, name_in}
use Rattle.signal.specs.Status.{quality_number}
use Rattle.signal.specs.declared.status.Quality.{Quality}

abbrev pub Row : Type 0
Row = Quality × ℕ × Bor (List ℕ)

-- the row has this quality and sub-status
abbrev pub is_row : Quality → ℕ → Row → Bool
is_row q s row = quality_number row.0 == quality_number q && row.1 == s

abbrev name_of : Row → List ℕ
name_of row = row.2.now

pub name_found : (rows : List Row) (q : Quality) (s : ℕ)
    → option_map name_of (find (is_row q s) rows) ≡ name_in (map row_of rows) (quality_number q) s
name_found [] q s = refl
name_found (row ∷ rows) q s =
    elim (is_row q s row) as (λ b. option_map name_of (cond b (Some row) (find (is_row q s) rows)) ≡ cond b (Some (name_of row)) (name_in (map row_of rows) (quality_number q) s))
    [ true ↦ refl | false ↦ name_found rows q s ]

-- a name that is taken out of the row that was found
pub name_mapped : (o : Option (Bor Row)) (n : Option (Bor (List ℕ))) (found : Option Row)
    → MatchOption o (n ≡ None) (λ r. n ≡ Some r.now.2) → option_map (λ (r : Bor Row). r.now) o ≡ found
    → option_map (λ (x : Bor (List ℕ)). x.now) n ≡ option_map name_of found
name_mapped None n found m e = ap (option_map (λ (x : Bor (List ℕ)). x.now)) m ∙ ap (option_map name_of) e
name_mapped (Some r) n found m e = ap (option_map (λ (x : Bor (List ℕ)). x.now)) m ∙ ap (option_map name_of) e
