use Rattle.std.proofs.Common.{◌∙◌, rules, tests}
use Rattle.std.proofs.lemmas.Iterator.{YieldsList-from_slice}
use Rattle.std.proofs.lemmas.Iterator.Search.{find_from_yields_List}
use Rattle.signal.proofs.Naming.{is_row, name_found, name_mapped}
use Rattle.signal.proofs.codes.name_in.Goals as goal

pub returns : goal.returns
returns c =
    let found = find_from_yields_List (is_row c.args.quality c.args.sub_status) _ _ c.find.result c.find.ensures.ran (YieldsList-from_slice c.args.rows.now c.iter.ensures.rest) (λ x b q k. search (rules, tests)) in
    name_mapped _ _ _ (search rules) found ∙ name_found c.args.rows.now c.args.quality c.args.sub_status
