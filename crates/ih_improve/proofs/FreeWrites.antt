-- The writes of a move, none of which a test picks.
use Rattle.std.proofs.Common.{◌≡◌, ℕ, refl, Bool, true, false, List, [], ◌∷◌, Option, Some, None}
use Rattle.std.specs.Prelude.{◌||◌, if◌then◌else◌, map, filter}
use Rattle.std.specs.List.{list_any}
use Rattle.ih_tables.specs.declared.ids.NurseNo.{NurseNo}
use Rattle.ih_tables.specs.declared.ids.PatientNo.{PatientNo}
use Rattle.ih_tables.specs.declared.ids.RoomNo.{RoomNo}
use Rattle.ih_plan.specs.declared.moves.Placement.{Placement}
use Rattle.ih_plan.specs.declared.moves.Write.{Write}
use Rattle.ih_plan.specs.declared.moves.Write.TheVariants.{SetCare, SetStay}
use Rattle.ih_plan.specs.Expand.{restay, swap_stays}

pub both : (a b : Bool) → a ≡ false → b ≡ false → (a || b) ≡ false
both true b h k = absurd (let no : true ≡ false = h in cc)
both false b h k = k

module _ (picks : Write → Bool) where
  -- it picks no write of this stay
  abbrev pub IsFree : PatientNo → Option Placement → Type 0
  IsFree p s = picks (SetStay p s) ≡ false

  pub restay-free : (p : PatientNo) (g : Placement → Option Placement) (s : Option Placement) → ((at : Placement) → s ≡ Some at → IsFree p (g at))
      → list_any picks (restay p g s) ≡ false
  restay-free p g None free = refl
  restay-free p g (Some at) free = both _ false (free at refl) refl

  pub swap-free : (p q : PatientNo) (s t : Option Placement)
      → ((a b : Placement) → s ≡ Some a → t ≡ Some b → IsFree p (Some (record a { room = b.room })) × IsFree q (Some (record b { room = a.room })))
      → list_any picks (swap_stays p q s t) ≡ false
  swap-free p q None t free = refl
  swap-free p q (Some a) None free = refl
  swap-free p q (Some a) (Some b) free = let two = free a b refl refl in both _ _ two.0 (both _ false two.1 refl)

  pub run-free : (r : RoomNo) (n : NurseNo) (test : ℕ → Bool) (ks : List ℕ) → ((k : ℕ) → test k ≡ true → picks (SetCare r (record { 0 = k }) (Some n)) ≡ false)
      → list_any picks (map (λ k. SetCare r (record { 0 = k }) (Some n)) (filter test ks)) ≡ false
  run-free r n test [] free = refl
  run-free r n test (k ∷ ks) free = by_case (run-free r n test ks free) (test k) refl
    where
      by_case : list_any picks (map (λ k. SetCare r (record { 0 = k }) (Some n)) (filter test ks)) ≡ false → (t : Bool) → test k ≡ t
          → list_any picks (map (λ k. SetCare r (record { 0 = k }) (Some n)) (if t then k ∷ filter test ks else filter test ks)) ≡ false
      by_case rest true on = both _ _ (free k on) rest
      by_case rest false off = rest

  pub if-free : (t : Bool) (ws : List Write) → list_any picks ws ≡ false → list_any picks (if t then [] else ws) ≡ false
  if-free true ws h = refl
  if-free false ws h = h
