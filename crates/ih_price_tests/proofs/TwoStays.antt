-- The timetables of the tests in which the first patient comes, the second joins it, and the first leaves again.
use Rattle.std.proofs.Common.{◌≡◌, ◌∙◌, arith, Option, Some, None}
use Rattle.std.proofs.lemmas.List.{length-replicate}
use Rattle.ih_tables.specs.declared.drafts.Draft.{Draft}
use Rattle.ih_tables.specs.declared.ids.PatientNo.{PatientNo}
use Rattle.ih_tables.specs.Sizes.{patient_count}
use Rattle.ih_plan.specs.declared.moves.Placement.{Placement}
use Rattle.ih_plan.specs.declared.moves.Write.TheVariants.{SetStay}
use Rattle.ih_plan.specs.Timetable.{Timetable, empty, stay_of}
use Rattle.ih_plan.specs.Writes.{put}
use Rattle.ih_plan.proofs.Entries.{stay_of-other, stay_of-same}
use Rattle.ih_plan.proofs.Whereabouts.{no-stay}

abbrev pub p0 : PatientNo
p0 = record { 0 = 0 }

abbrev pub p1 : PatientNo
p1 = record { 0 = 1 }

module _ (I : Draft) (here beside : Placement) where
  abbrev pub first : Timetable
  first = put (SetStay p0 (Some here)) (empty I)

  abbrev pub both : Timetable
  both = put (SetStay p1 (Some beside)) first

  pub nobody : stay_of (empty I) 0 ≡ None
  nobody = no-stay I 0

  pub second-out : stay_of first 1 ≡ None
  second-out = stay_of-other (empty I) p0 (Some here) 1 (λ h. omega (arith, h)) ∙ no-stay I 1

  pub first-there : patient_count I ≡ 2 → stay_of both 0 ≡ Some here
  first-there two =
      stay_of-other first p1 (Some beside) 0 (λ h. omega (arith, h))
      ∙ stay_of-same (empty I) p0 (Some here) (let long = length-replicate {A = Option Placement} (patient_count I) None in omega (arith, long, two))

-- A ledger of either kind, which stands for timetables, while the patients come and the first leaves again.
module _ {L : Type 0} (Stands : Timetable → L → Type 0) (I : Draft) (here beside : Placement) where
  abbrev Comes : L → L → Type 0
  Comes before after = (P : Timetable) → Stands P before → stay_of P 0 ≡ None → Stands (put (SetStay p0 (Some here)) P) after

  abbrev Joins : L → L → Type 0
  Joins before after = (P : Timetable) → Stands P before → stay_of P 1 ≡ None → Stands (put (SetStay p1 (Some beside)) P) after

  abbrev Leaves : L → L → Type 0
  Leaves before after = (P : Timetable) → Stands P before → stay_of P 0 ≡ Some here → Stands (put (SetStay p0 None) P) after

  pub first-in : (new one : L) → Stands (empty I) new → Comes new one → (P : Timetable) × Stands P one
  first-in new one stands comes = (first I here beside, comes (empty I) stands (nobody I here beside))

  pub may-join : (new one : L) → Stands (empty I) new → Comes new one → (P : Timetable) × Stands P one × (stay_of P 1 ≡ None)
  may-join new one stands comes = (first I here beside, comes (empty I) stands (nobody I here beside), second-out I here beside)

  pub may-leave : (new one two : L) → patient_count I ≡ 2 → Stands (empty I) new → Comes new one → Joins one two → (P : Timetable) × Stands P two × (stay_of P 0 ≡ Some here)
  may-leave new one two many stands comes joins =
      (both I here beside, joins (first I here beside) (comes (empty I) stands (nobody I here beside)) (second-out I here beside), first-there I here beside many)

  pub has-left : (new one two three : L) → patient_count I ≡ 2 → Stands (empty I) new → Comes new one → Joins one two → Leaves two three → (P : Timetable) × Stands P three
  has-left new one two three many stands comes joins leaves =
      let two = joins (first I here beside) (comes (empty I) stands (nobody I here beside)) (second-out I here beside) in
      (put (SetStay p0 None) (both I here beside), leaves (both I here beside) two (first-there I here beside many))
