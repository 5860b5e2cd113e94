use Rattle.std.proofs.Common.{refl}
use Rattle.cases.proofs.Rounds.{lo_tracks, bad_below_holds, sp_tracks_pv, acknowledged_stays, count_starts_over}
use Rattle.ends.proofs.Cases as ends
use Rattle.law.proofs.Cases as laws
use Rattle.cases.proofs.worked.settling_over_pulse.Goals as goal

pub returns-clause-worked : goal.returns-clause-worked
returns-clause-worked g c = record {
  request_parts = refl;
  service_parts = refl;
  fault_parts = refl;
  of_laws = laws.worked;
  of_ends = ends.worked;
  control_over_pulse = λ b. refl;
  lo_tracks = lo_tracks g.L.Law.model;
  bad_below_holds = bad_below_holds g.L.Law.model;
  sp_tracks_pv = sp_tracks_pv g.L.Law.model;
  acknowledged_stays = acknowledged_stays g.L.Law.model;
  count_starts_over = count_starts_over;
}
