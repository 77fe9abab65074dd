use Rattle.ih_tables.proofs.instances.Instance.seal.Goals as goal

pub invariant_of-result : goal.invariant_of-result
invariant_of-result c = record {
  valid = c.requires;
  patients_found = c.in_ok-numbers.ensures.patients;
  rooms_found = c.in_ok-numbers.ensures.rooms;
  nurses_found = c.in_ok-numbers.ensures.nurses;
  theatres_found = c.in_ok-numbers.ensures.theatres;
  shift_types_found = c.in_ok-numbers.ensures.shift_types;
  loads_listed = c.in_ok-loads.ensures;
  working_listed = c.in_ok-rosters.ensures;
}
