-- Why a choice of a timetable can't be kept in the next ward.
use Rattle.std.specs.Prelude.{ℕ, ◌==◌, Bool, false, List, codes, Result, Ok, Err}
use Rattle.ih_carry.specs.declared.losses.Loss.{Loss}
use Rattle.ih_carry.specs.declared.losses.Loss.TheVariants.{Before, Past, RoomGone, TheatreGone, NurseGone, OffDuty}

abbrev pub loss_number : Loss → ℕ
loss_number Before = 0
loss_number Past = 1
loss_number RoomGone = 2
loss_number TheatreGone = 3
loss_number NurseGone = 4
loss_number OffDuty = 5

-- the two are the same
abbrev pub is_loss : Loss → Loss → Bool
is_loss a b = loss_number a == loss_number b

-- it isn't kept, for this reason
abbrev pub is_lost_by : {A : Type 0} → Loss → Result A Loss → Bool
is_lost_by loss (Ok x) = false
is_lost_by loss (Err why) = is_loss why loss

-- how it is said
abbrev pub loss_text : Loss → List ℕ
loss_text Before = codes "the day is before the first"
loss_text Past = codes "the day is past the last"
loss_text RoomGone = codes "the room has gone"
loss_text TheatreGone = codes "the theatre has gone"
loss_text NurseGone = codes "the nurse has gone"
loss_text OffDuty = codes "the nurse doesn't work then"

-- what is kept, and then so on: the first that isn't kept is the reason
infixl 10 ◌>>=◌
abbrev pub ◌>>=◌ : {A B : Type 0} → Result A Loss → (A → Result B Loss) → Result B Loss
(Ok x) >>= f = f x
(Err why) >>= f = Err why
