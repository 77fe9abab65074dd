-- Replicas that stand for a history, and the offers that they make.
use Rattle.std.specs.Prelude.{◌≡◌, ℕ, ◌+◌, ◌<◌, ◌≤◌, ◌++◌, ◌⊎◌, List, [], length, take, Some, if◌then◌else◌}
use Rattle.ih_plan.specs.declared.moves.Move.{Move}
use Rattle.ih_plan.specs.Series.{price_of_all}
use Rattle.ih_journal.specs.Tried.{Tried}
use Rattle.ih_journal.specs.Base.{Base}
use Rattle.ih_journal.specs.Frozen.{is_frozen}
use Rattle.ih_journal.specs.History.{plan_after}
use Rattle.ih_cellbook.specs.Offered.{Offered}
use Rattle.ih_cellbook.specs.Counters.{is_compared}
use Rattle.ih_cellbook.specs.Keeping.{IsBase, AreVersions}
use Rattle.ih_cellbook.specs.Legal.{AreLegalButDraws}
use Rattle.ih_cellbook.specs.Offers.{IsRightOffer, next_number, reads_after}
use Rattle.ih_cellbook.specs.ReplicaState.{ReplicaState}
use Rattle.ih_cellbook.specs.News.{accepted_of}

-- The offer has no cells, or those of its attempt after the entries that it had seen, which are among those of H.
pub record IsReadFrom (b : Base) (H : List Tried) (o : Offered) : Type 0 where
  pub seen : o.seen ≤ length H
  pub reads : (o.reads.pairs ≡ []) ⊎ (o.reads.pairs ≡ reads_after b (take o.seen H) o.moves)

-- The replica stands for the history H of a search over b.
pub record IsReplicaOf (b : Base) (H : List Tried) (r : ReplicaState) : Type 0 where
  pub base : r.base ≡ b
  pub lawful : IsBase b
  pub legal : AreLegalButDraws b H
  pub seen : r.seen ≡ length H
  pub plan : r.plan ≡ plan_after b H
  pub versions : AreVersions b H r.versions
  pub last : IsReadFrom b H r.last

-- It stands for the first entries of H, as many as it has seen.
abbrev pub IsReplicaIn : Base → List Tried → ReplicaState → Type 0
IsReplicaIn b H r = IsReplicaOf b (take r.seen H) r

-- Where the first replica stands for a history, so does the second.
abbrev pub StandsAs : ReplicaState → ReplicaState → Type 0
StandsAs r s = (b : Base) (H : List Tried) → IsReplicaOf b H r → IsReplicaOf b H s

-- The entries may follow some history that the replica stands for.
abbrev pub MayFollow : ReplicaState → List Tried → Type 0
MayFollow r es = (b : Base) × (H : List Tried) × IsReplicaOf b H r × AreLegalButDraws b (H ++ es)

-- Whatever history the first replica stands for, the second stands for it and the entries that follow.
abbrev pub StandsAfter : ReplicaState → List Tried → ReplicaState → Type 0
StandsAfter r es s = (b : Base) (H : List Tried) → IsReplicaOf b H r → AreLegalButDraws b (H ++ es)
    → IsReplicaOf b (H ++ es) s

-- Entries behind those that the replica stands for, up to a place, of which these are the accepted ones.
pub record AreUpTo (r : ReplicaState) (accepted : List Tried) (until : ℕ) (es : List Tried) : Type 0 where
  pub accepted_are : accepted ≡ accepted_of es
  pub place : until ≡ r.seen + length es

-- Some such entries may follow some history that the replica stands for.
abbrev pub MayFollowUpTo : ReplicaState → List Tried → ℕ → Type 0
MayFollowUpTo r accepted until = (es : List Tried) × AreUpTo r accepted until es × MayFollow r es

-- Whatever such entries follow, the second replica stands for them too.
abbrev pub StandsUpTo : ReplicaState → List Tried → ℕ → ReplicaState → Type 0
StandsUpTo r accepted until s = (es : List Tried) → AreUpTo r accepted until es → StandsAfter r es s

-- The offer of worker w of this number and these moves, priced after all entries of H, with these cells.
pub record IsOfferWith (b : Base) (H : List Tried) (w n : ℕ) (m : List Move) (cells : List (ℕ × ℕ)) (o : Offered) : Type 0 where
  pub worker : o.worker ≡ w
  pub number : o.number ≡ n
  pub move : o.moves ≡ m
  pub seen : o.seen ≡ length H
  pub price : o.price ≡ price_of_all b.instance (plan_after b H) m
  pub reads : o.reads.pairs ≡ cells
  pub frozen : o.frozen ≡ is_frozen b (plan_after b H) m

-- The offer of worker w of this number and these moves after H, with all cells of the footprint and their versions.
abbrev pub IsPricedAfter : Base → List Tried → ℕ → ℕ → List Move → Offered → Type 0
IsPricedAfter b H w n m o = IsOfferWith b H w n m (reads_after b H m) o

-- The offer of worker w of this number and these moves after H, with the cells that its verdict rests on, if any.
abbrev pub IsOfferAfter : Base → List Tried → ℕ → ℕ → List Move → Offered → Type 0
IsOfferAfter b H w n m o =
    IsOfferWith b H w n m (if is_compared b.instance b.options o.frozen n o.price then reads_after b H m else []) o

-- Whatever history the replica stands for, the offer is that of its worker after it, with the cells that its verdict
-- rests on.
abbrev pub IsOfferOf : ReplicaState → ℕ → List Move → Offered → Type 0
IsOfferOf r n m o = (b : Base) (H : List Tried) → IsReplicaOf b H r → IsOfferAfter b H r.worker n m o

-- Whatever history the replica stands for, the offer is that of its worker after it, with all cells of the footprint.
abbrev pub IsPricedOf : ReplicaState → ℕ → List Move → Offered → Type 0
IsPricedOf r n m o = (b : Base) (H : List Tried) → IsReplicaOf b H r → IsPricedAfter b H r.worker n m o

-- Where the worker isn't done and its next attempt has this number, a book with that history takes the offer.
abbrev pub IsRightFor : ReplicaState → ℕ → Offered → Type 0
IsRightFor r n o = (b : Base) (H : List Tried) → IsReplicaOf b H r → r.worker < b.options.workers
    → next_number b.options H r.worker ≡ Some n → IsRightOffer b H o
