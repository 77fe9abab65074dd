-- The moves that a worker draws, from six words each.
use Rattle.std.specs.Prelude.{ℕ, zero, suc, ◌+◌, ◌-◌, ◌*◌, ◌%◌, ◌^◌, ◌==◌, nat_lt, min, List, length, Option, Some, None, if◌then◌else◌, slice_get, option_and_then, option_map, unwrap_or}
use Rattle.rand_xoshiro.specs.Xoshiro256.{plus_plus, next_state, of_seed}
use Rattle.rand_xoshiro.specs.SplitMix64.{splitmix_seed}
use Rattle.ih_tables.specs.declared.drafts.Draft.{Draft}
use Rattle.ih_tables.specs.declared.drafts.Patient.{Patient}
use Rattle.ih_tables.specs.Sizes.{patient_count, room_count, shift_count, nurse_count, theatre_count}
use Rattle.ih_tables.specs.declared.ids.NurseNo.{NurseNo}
use Rattle.ih_tables.specs.Works.{working}
use Rattle.ih_plan.specs.declared.moves.Move.{Move}
use Rattle.ih_plan.specs.declared.moves.Move.TheVariants.{Idle, Place, Withdraw, SetDay, SetRoom, SetTheatre, SwapRooms, Nurse, NurseRun, SwapNurses}

-- the last day on which a patient may be admitted: the due day of a mandatory one, cut at the horizon's end
abbrev pub last_day : Draft → Patient → ℕ
last_day I p = if p.mandatory then min (unwrap_or p.surgery_due_day 0) (I.days - 1) else I.days - 1

-- how many days there are from the release day to that day
abbrev pub window_len : Draft → Patient → ℕ
window_len I p = last_day I p + 1 - p.surgery_release_day

-- a choice among n by a word, where there is anything to choose
abbrev pub choose : ℕ → ℕ → Option ℕ
choose u n = if n == 0 then None else Some (u % n)

-- a day of patient p's window
abbrev pub choose_day : Draft → ℕ → ℕ → Option ℕ
choose_day I u p =
    option_and_then
    (λ (a : Patient). option_map (λ j. a.surgery_release_day + j) (choose u (window_len I a)))
    (slice_get I.patients p)

-- a nurse who works shift k
abbrev pub choose_nurse : Draft → ℕ → ℕ → Option NurseNo
choose_nurse I u k = option_and_then (slice_get (working I k)) (choose u (length (working I k)))

infixl 10 ◌>>=◌
abbrev ◌>>=◌ : {A B : Type 0} → Option A → (A → Option B) → Option B
o >>= f = option_and_then f o

-- what is made of two choices, each among so many by a word of its own
abbrev choose_two : ℕ → ℕ → ℕ → ℕ → (ℕ → ℕ → Move) → Option Move
choose_two u m v n made = do
  i ← choose u m
  j ← choose v n
  Some (made i j)

-- the moves by kind: none where there is nothing to choose from
abbrev pub drawn_place : Draft → ℕ → ℕ → ℕ → ℕ → Option Move
drawn_place I u1 u2 u3 u4 = do
  p ← choose u1 (patient_count I)
  d ← choose_day I u2 p
  r ← choose u3 (room_count I)
  t ← choose u4 (theatre_count I)
  Some (Place (record { 0 = p }) (record {
    day = record { 0 = d };
    room = record { 0 = r };
    theatre = record { 0 = t };
  }))

abbrev pub drawn_withdrawal : Draft → ℕ → Option Move
drawn_withdrawal I u1 = do
  p ← choose u1 (patient_count I)
  Some (Withdraw (record { 0 = p }))

abbrev pub drawn_day : Draft → ℕ → ℕ → Option Move
drawn_day I u1 u2 = do
  p ← choose u1 (patient_count I)
  d ← choose_day I u2 p
  Some (SetDay (record { 0 = p }) (record { 0 = d }))

abbrev pub drawn_room : Draft → ℕ → ℕ → Option Move
drawn_room I u1 u2 =
    choose_two u1 (patient_count I) u2 (room_count I) (λ p r. SetRoom (record { 0 = p }) (record { 0 = r }))

abbrev pub drawn_theatre : Draft → ℕ → ℕ → Option Move
drawn_theatre I u1 u2 =
    choose_two u1 (patient_count I) u2 (theatre_count I) (λ p t. SetTheatre (record { 0 = p }) (record { 0 = t }))

abbrev pub drawn_room_swap : Draft → ℕ → ℕ → Option Move
drawn_room_swap I u1 u2 =
    choose_two u1 (patient_count I) u2 (patient_count I) (λ p q. SwapRooms (record { 0 = p }) (record { 0 = q }))

abbrev pub drawn_nurse_swap : Draft → ℕ → ℕ → ℕ → Option Move
drawn_nurse_swap I u1 u2 u3 = do
  k ← choose u1 (shift_count I)
  a ← choose u2 (room_count I)
  b ← choose u3 (room_count I)
  Some (SwapNurses (record { 0 = k }) (record { 0 = a }) (record { 0 = b }))

abbrev pub drawn_nurse : Draft → ℕ → ℕ → ℕ → Option Move
drawn_nurse I u1 u2 u3 = do
  r ← choose u1 (room_count I)
  k ← choose u2 (shift_count I)
  n ← choose_nurse I u3 k
  Some (Nurse (record { 0 = r }) (record { 0 = k }) n)

abbrev pub drawn_run : Draft → ℕ → ℕ → ℕ → ℕ → Option Move
drawn_run I u1 u2 u3 u4 = do
  n ← choose u1 (nurse_count I)
  r ← choose u2 (room_count I)
  d ← choose u3 I.days
  Some (NurseRun (record { 0 = n }) (record { 0 = r }) (record { 0 = d }) (1 + u4 % 7))

-- the move of a kind from 0 to 15
unfoldable pub drawn : Draft → ℕ → ℕ → ℕ → ℕ → ℕ → Option Move
drawn I kind u1 u2 u3 u4 =
    if nat_lt kind 3 then drawn_place I u1 u2 u3 u4
    else if kind == 3 then drawn_withdrawal I u1
    else if nat_lt kind 6 then drawn_day I u1 u2
    else if nat_lt kind 8 then drawn_room I u1 u2
    else if kind == 8 then drawn_theatre I u1 u2
    else if kind == 9 then drawn_room_swap I u1 u2
    else if nat_lt kind 12 then drawn_nurse_swap I u1 u2 u3
    else if nat_lt kind 15 then drawn_nurse I u1 u2 u3
    else drawn_run I u1 u2 u3 u4

-- the move of six words, the last of which decides nothing: Idle where there is nothing to choose from
abbrev pub draw : Draft → ℕ → ℕ → ℕ → ℕ → ℕ → Move
draw I u0 u1 u2 u3 u4 = unwrap_or (drawn I (u0 % 16) u1 u2 u3 u4) Idle

-- the generator's state after n words
unfoldable pub state_after : ℕ → List ℕ → List ℕ
state_after zero s = s
state_after (suc n) s = next_state (state_after n s)

-- word n from a state on
abbrev pub word_at : List ℕ → ℕ → ℕ
word_at s n = (plus_plus (state_after n s)).0

-- worker w's stream: the generator that is seeded by the sum of seed and worker
unfoldable pub stream_state : ℕ → ℕ → List ℕ
stream_state seed w = of_seed (splitmix_seed 32 ((seed + w) % 2 ^ 64))

-- the draw of the six words from a state on
abbrev pub draw_at : Draft → List ℕ → Move
draw_at I s = draw I (word_at s 0) (word_at s 1) (word_at s 2) (word_at s 3) (word_at s 4)

-- worker w's stream after i draws
abbrev pub stream_at : ℕ → ℕ → ℕ → List ℕ
stream_at seed w i = state_after (6 * i) (stream_state seed w)

-- draw i of worker w
unfoldable pub move_of : Draft → ℕ → ℕ → ℕ → Move
move_of I seed w i = draw_at I (stream_at seed w i)
