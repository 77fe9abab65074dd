-- The part of a room and a day with a person there or not, from the list of the others.
use Rattle.std.proofs.Common.{◌≡◌, ℕ, ◌*◌, ◌<◌, ◌≤◌, arith, sym, ap, ◌∙◌, Bool, true, false, List, length, Option}
use Rattle.std.specs.Prelude.{option_map}
use Rattle.ih_tables.specs.declared.drafts.Draft.{Draft}
use Rattle.ih_tables.specs.declared.ids.PatientNo.{PatientNo}
use Rattle.ih_tables.specs.declared.ids.RoomNo.{RoomNo}
use Rattle.ih_tables.specs.declared.ids.Day.{Day}
use Rattle.ih_tables.specs.declared.cells.Cell.TheVariants.{RoomDay}
use Rattle.ih_tables.specs.Sizes.{patient_count}
use Rattle.ih_plan.specs.declared.moves.Placement.{Placement}
use Rattle.ih_plan.specs.declared.moves.Write.TheVariants.{SetStay}
use Rattle.ih_plan.specs.Timetable.{Timetable, stay_of}
use Rattle.ih_plan.specs.Writes.{put}
use Rattle.ih_plan.specs.Presence.{is_in, is_present, placed_at, present}
use Rattle.ih_plan.specs.Persons.{person_of}
use Rattle.ih_plan.specs.Cells.{part_at}
use Rattle.ih_plan.proofs.Entries.{admission-patient, admission-set}
use Rattle.ih_links.specs.Lists.{AreNodes, has, without, with_if}
use Rattle.ih_links.proofs.Members.{length-once, without-none}
use Rattle.ih_links.proofs.Without.{with-each, with-once, with-known}
use Rattle.ih_roomdays.specs.declared.profiles.Profile.{Profile}
use Rattle.ih_roomdays.specs.declared.room_lists.RoomLists.{RoomLists}
use Rattle.ih_roomdays.specs.Ledger.{IsLedgerOf}
use Rattle.ih_roomdays.specs.Profiles.{most_persons, profile_of}
use Rattle.ih_roomdays.specs.Parts.{room_day_part, room_counts}
use Rattle.ih_roomdays.specs.RoomLists.{AreRoomLists, is_at, crowd_at, persons_at}
use Rattle.ih_plan.proofs.Whereabouts.{others-stay}
use Rattle.ih_roomdays.proofs.Orders.{AreAlike}
use Rattle.ih_roomdays.proofs.Tallies.{some-there}
use Rattle.ih_roomdays.proofs.Standing.{has-present, part-alike}

-- ---- the others

module _ (v : RoomLists) (rows : AreRoomLists v) (r d x : ℕ) (day : d < v.days) where
  abbrev pub rest : List ℕ
  rest = without x (persons_at v r d)

  -- they are persons of the instance, and few
  pub rest-known : x < v.persons → (b : Bool) → AreNodes v.persons (with_if b x rest)
  rest-known below b = with-known b x (persons_at v r d) (record { below = λ y there. rows.known r d y day there; once = rows.once r d day }) below

  pub with-few : x < v.persons → (b : Bool) → length (with_if b x rest) ≤ most_persons
  with-few below b =
      let nodes = rest-known below b in
      let all = length-once v.persons (with_if b x rest) nodes.once nodes.below in
      let few = rows.few_persons in
      omega arith

  -- where the person isn't there, all are others
  pub rest-all : is_at v r d x ≡ false → rest ≡ persons_at v r d
  rest-all away = without-none x (persons_at v r d) away

  -- who is there has a part in the sums
  pub own-part : is_at v r d x ≡ true → (who : Profile) → who ≡ profile_of v.profiles x
      → (who.gender ≤ (crowd_at v r d).occupancy.genders) × (who.gender * who.gender ≤ (crowd_at v r d).occupancy.squares)
  own-part there who own =
      some-there v.profiles (persons_at v r d) x (rows.once r d day) there
      who.gender (crowd_at v r d).occupancy (ap (λ w. w.gender) own) (rows.kept r d day).occupancy

-- ---- the part with another stay

module _ (I : Draft) (P : Timetable) (v : RoomLists) (stands : IsLedgerOf I P v) (p : PatientNo) (known : p.0 < patient_count I) (r : RoomNo) (d : Day) (day : d.0 < I.days) where
  within : d.0 < v.days
  within = rw stands.days day

  abbrev occupancy : Bool → List ℕ
  occupancy b = with_if b p.0 (without p.0 (persons_at v r.0 d.0))

  -- at a timetable at which the others are where they were
  part-of : (Q : Timetable) (b : Bool) → ((x : ℕ) → (x ≡ p.0 → ⊥) → is_present I Q r.0 d.0 x ≡ is_present I P r.0 d.0 x) → is_present I Q r.0 d.0 p.0 ≡ b
      → room_day_part (room_counts I r.0 (occupancy b)) ≡ part_at I Q (RoomDay r d)
  part-of Q b same own = part-alike I Q r d (occupancy b) (with-once b p.0 (persons_at v r.0 d.0) (stands.rows.once r.0 d.0 within)) alike
    where
      alike : AreAlike (occupancy b) (present I Q r.0 d.0)
      alike = with-each b p.0 (persons_at v r.0 d.0) (λ x. has x (present I Q r.0 d.0)) (has-present I Q r.0 d.0 p.0 ∙ own)
          (λ x ne. stands.each r.0 d.0 x day ∙ sym (has-present I Q r.0 d.0 x ∙ same x ne))

  -- the patient, with this stay, is there
  abbrev there_by : Option Placement → Bool
  there_by s = is_in (option_map placed_at s) (person_of I p.0).length_of_stay r.0 d.0

  pub is-there : (s : Option Placement) → stay_of P p.0 ≡ s → is_present I P r.0 d.0 p.0 ≡ there_by s
  is-there s e = ap (λ a. is_in a (person_of I p.0).length_of_stay r.0 d.0) (admission-patient I P p.0 known ∙ ap (option_map placed_at) e)

  pub was-at : (s : Option Placement) (b : Bool) → stay_of P p.0 ≡ s → b ≡ there_by s → b ≡ is_at v r.0 d.0 p.0
  was-at s b e was = was ∙ sym (stands.each r.0 d.0 p.0 day ∙ is-there s e)

  pub part-after : (s : Option Placement) (b : Bool) → b ≡ there_by s → room_day_part (room_counts I r.0 (occupancy b)) ≡ part_at I (put (SetStay p s) P) (RoomDay r d)
  part-after s b will = part-of (put (SetStay p s) P) b (λ x ne. others-stay I P p s r.0 d.0 x ne)
      (ap (λ a. is_in a (person_of I p.0).length_of_stay r.0 d.0) (admission-set I P p s stands.plan known) ∙ sym will)
