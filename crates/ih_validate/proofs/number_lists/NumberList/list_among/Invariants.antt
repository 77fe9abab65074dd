use Rattle.std.proofs.Common.{◌≡◌, ℕ, ◌<◌, ◌≤◌, ◌^◌, Bool, length, take}
use Rattle.std.specs.List.{filter}
use Rattle.ih_validate.proofs.number_lists.NumberList.list_among.Given as goal

abbrev pub invariant-loop-x : goal.invariant-loop-x
invariant-loop-x g l = record {
  listed : (p : ℕ → Bool) → ((i : ℕ) (b : Bool) → i < 2 ^ 32 → goal.F-post g l.keep i b → b ≡ p i) → l.self ≡ filter p (take l.x-index l.among);
  few : length l.self ≤ l.x-index;
}
