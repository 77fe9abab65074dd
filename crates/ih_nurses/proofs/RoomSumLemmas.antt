-- The sums of a walk over a room's list for two choices of nurse.
use Rattle.std.proofs.Common.{◌≡◌, ℕ, ◌+◌, ◌-◌, ◌<◌, ◌≤◌, refl, arith, ap, ◌∙◌, List, [], ◌∷◌, map, Option, Some, None}
use Rattle.std.specs.Prelude.{option_map, slice_get, sum_by}
use Rattle.std.proofs.lemmas.List.Sums.{sum_by-cons}
use Rattle.std.proofs.lemmas.Nat.{mul-le}
use Rattle.ih_tables.specs.declared.drafts.Draft.{Draft}
use Rattle.ih_tables.specs.declared.drafts.Nurse.{Nurse}
use Rattle.ih_tables.specs.declared.ids.NurseNo.{NurseNo}
use Rattle.ih_tables.specs.Sizes.{person_count}
use Rattle.ih_tables.specs.Valid.{IsValid}
use Rattle.ih_links.specs.Lists.{AreNodes, first_of}
use Rattle.ih_plan.specs.Timetable.{Timetable}
use Rattle.ih_plan.specs.Presence.{workload_of, skill_of}
use Rattle.ih_plan.specs.Costs.{skill_level, skill_missing}
use Rattle.ih_nurses.specs.Counts.{has_just}
use Rattle.ih_nurses.proofs.WalkLemmas.{IsSumWalk, sum-begins, sum-fits}
use Rattle.ih_plan.proofs.BillBounds.{few-persons}

-- the skill that person x requires above a choice of nurse in shift k
abbrev pub lack : Draft → Timetable → ℕ → Option NurseNo → ℕ → ℕ
lack I P k n x = skill_missing I (option_map (λ (a : NurseNo). a.0) n) (skill_of I P k x ∷ [])

-- that of all of them
pub lack-all : (I : Draft) (P : Timetable) (k : ℕ) (n : Option NurseNo) (xs : List ℕ)
    → sum_by (lack I P k n) xs ≡ skill_missing I (option_map (λ (a : NurseNo). a.0) n) (map (skill_of I P k) xs)
lack-all I P k n [] = none n
  where
    none : (o : Option NurseNo) → 0 ≡ skill_missing I (option_map (λ (a : NurseNo). a.0) o) []
    none None = refl
    none (Some a) = refl
lack-all I P k n (x ∷ xs) =
    sum_by-cons (lack I P k n) x xs ∙ (ap (λ m. lack I P k n x + m) (lack-all I P k n xs) ∙ more n)
  where
    more : (o : Option NurseNo) → lack I P k o x + skill_missing I (option_map (λ (a : NurseNo). a.0) o) (map (skill_of I P k) xs)
        ≡ skill_missing I (option_map (λ (a : NurseNo). a.0) o) (map (skill_of I P k) (x ∷ xs))
    more None = refl
    more (Some a) =
        let above : ℕ → ℕ = λ s. s - skill_level I a.0 in
        omega (arith, sum_by-cons above (skill_of I P k x) [], sum_by-cons above (skill_of I P k x) (map (skill_of I P k) xs))

-- what a skill is above a nurse's
pub lack-one : (I : Draft) (n skill : ℕ) (nurse : Nurse) → slice_get I.nurses n ≡ Some nurse → skill - nurse.skill_level ≡ skill_missing I (Some n) (skill ∷ [])
lack-one I n skill nurse e =
    let level : skill_level I n ≡ nurse.skill_level = rw e refl in
    omega (arith, level, sum_by-cons (λ s. s - skill_level I n) skill [])

-- Each sum is what the persons met so far give.
pub record IsRoomWalk (I : Draft) (P : Timetable) (counts : List ℕ) (k : ℕ) (new old : Option NurseNo) (xs : List ℕ) (work new_missing old_missing come gone : ℕ) (at : Option ℕ) : Type 0 where
  pub work_is : IsSumWalk (person_count I) 100000 (workload_of I P k) xs work at
  pub new_is : IsSumWalk (person_count I) 1000 (lack I P k new) xs new_missing at
  pub old_is : IsSumWalk (person_count I) 1000 (lack I P k old) xs old_missing at
  pub come_is : IsSumWalk (person_count I) 1 (has_just I counts 0 new) xs come at
  pub gone_is : IsSumWalk (person_count I) 1 (has_just I counts 1 old) xs gone at

pub room-begins : (I : Draft) (P : Timetable) (counts : List ℕ) (k : ℕ) (new old : Option NurseNo) (xs : List ℕ) (at : Option ℕ)
    → AreNodes (person_count I) xs → at ≡ first_of xs → IsRoomWalk I P counts k new old xs 0 0 0 0 0 at
room-begins I P counts k new old xs at known first = record {
  work_is = sum-begins (person_count I) 100000 (workload_of I P k) xs at known first;
  new_is = sum-begins (person_count I) 1000 (lack I P k new) xs at known first;
  old_is = sum-begins (person_count I) 1000 (lack I P k old) xs at known first;
  come_is = sum-begins (person_count I) 1 (has_just I counts 0 new) xs at known first;
  gone_is = sum-begins (person_count I) 1 (has_just I counts 1 old) xs at known first;
}

-- the next number fits into 32 bits
pub sum-small : (I : Draft) → IsValid I → {b : ℕ} {f : ℕ → ℕ} {xs : List ℕ} {sum : ℕ} {at : Option ℕ} → IsSumWalk (person_count I) b f xs sum at → {x : ℕ} → at ≡ Some x
    → b ≤ 100000 → (y : ℕ) → y ≤ b → sum + y < 4294967296
sum-small I valid {b} walk here most y small =
    let fits = sum-fits walk here y small in
    let few = few-persons I valid in
    let all = mul-le (person_count I) b 2560 100000 few most in
    omega (arith, fits, all)
