-- Who is told to be in a room is a person of the instance.
use Rattle.std.proofs.Common.{◌≡◌, ◌<◌, ℕ, zero, suc, List, [], ◌∷◌, length, true, refl, arith, subst}
use Rattle.std.specs.Prelude.{◌==◌, slice_index}
use Rattle.std.proofs.lemmas.Bool.{or_left, or_right, eq-eqb}
use Rattle.ih_tables.specs.declared.drafts.Draft.{Draft}
use Rattle.ih_tables.specs.Sizes.{person_count}
use Rattle.ih_links.specs.Lists.{has}
use Rattle.ih_plan.specs.Timetable.{Timetable}
use Rattle.ih_roomdays.specs.declared.room_lists.RoomLists.{RoomLists}
use Rattle.ih_roomdays.specs.Ledger.{IsLedgerOf}
use Rattle.ih_roomdays.specs.RoomLists.{persons_at}

has-at : (xs : List ℕ) (i : ℕ) → i < length xs → has (slice_index xs i) xs ≡ true
has-at [] i inside = absurd (omega arith)
has-at (x ∷ xs) zero inside = or_left (x == x) (has x xs) (eq-eqb x x refl)
has-at (x ∷ xs) (suc i) inside = or_right (x == slice_index xs i) (has (slice_index xs i) xs) (has-at xs i (omega arith))

pub person-known : (I : Draft) (P : Timetable) (v : RoomLists) (r d i : ℕ) → IsLedgerOf I P v → d < I.days → i < length (persons_at v r d)
    → slice_index (persons_at v r d) i < person_count I
person-known I P v r d i stands day place =
    let days = stands.days in
    subst (λ n. slice_index (persons_at v r d) i < n) stands.persons
    (stands.rows.known r d (slice_index (persons_at v r d) i) (omega arith) (has-at (persons_at v r d) i place))
