-- An offer that is right stays right while others add entries.
use Rattle.ih_plan.specs.Series.{price_of_all}
use Rattle.ih_plan.proofs.ReadLemmas.{get-append}
use Rattle.std.proofs.Common.{◌≡◌, ℕ, suc, refl, arith, sym, ap, ◌∙◌, subst, take, false, List, [], ◌∷◌, ◌++◌, length-append, inl, inr, Some, None}
use Rattle.std.specs.Prelude.{if◌then◌else◌, ◌==◌, option_map}
use Rattle.std.proofs.lemmas.List.{take-append-le}
use Rattle.std.proofs.lemmas.Bool.{ne_eqb}
use Rattle.ih_journal.specs.declared.settings.Options.{Options}
use Rattle.ih_journal.specs.Tried.{Tried}
use Rattle.ih_journal.specs.Attempts.{TryNumber, try_after, last_by, is_done, is_done_after, next_try}
use Rattle.ih_journal.specs.Base.{Base}
use Rattle.ih_journal.specs.Frozen.{is_frozen}
use Rattle.ih_journal.proofs.Growth.{plan_at-earlier}
use Rattle.ih_cellbook.specs.Offered.{Offered}
use Rattle.ih_cellbook.specs.Laws.{HasNoneBy}
use Rattle.ih_cellbook.specs.Offers.{IsRightOffer, HasSeenOwn, next_number, reads_after}
use Rattle.ih_cellbook.specs.Replicas.{IsReplicaOf, IsReplicaIn}
use Rattle.ih_cellbook.specs.ReplicaState.{ReplicaState}

last_by-none : (w : ℕ) (es : List Tried) → HasNoneBy w es → last_by w es ≡ None
unfolding last_by
last_by-none w [] none = refl
last_by-none w (e ∷ es) none =
    let rest = last_by-none w es (λ k f h own. none (suc k) f h own) in
    let here : (e.worker == w) ≡ false = ne_eqb e.worker w (λ own. none 0 e refl own) in
    rw (rest, here) refl

-- others' entries don't change a worker's last one
pub last_by-others : (w : ℕ) (H es : List Tried) → HasNoneBy w es → last_by w (H ++ es) ≡ last_by w H
unfolding last_by
last_by-others w [] es none = last_by-none w es none
last_by-others w (x ∷ xs) es none = rw (last_by-others w xs es none) refl

pub seen_own-others : (w seen : ℕ) (H es : List Tried) → HasNoneBy w es → HasSeenOwn H w seen → HasSeenOwn (H ++ es) w seen
seen_own-others w seen H es none own j e h by = elim (get-append H es j e h) [
  | inl earlier ↦ own j e earlier by
  | inr other ↦ absurd (none other.0 e other.1 by)
]

number-same : (o : Options) (H G : List Tried) (w : ℕ) → last_by w G ≡ last_by w H → next_number o G w ≡ next_number o H w
unfolding next_try is_done
number-same o H G w e = ap (λ l. option_map (λ (a : TryNumber). a.number) (if is_done_after o l then None else Some (try_after o l))) e

pub right-stays : (b : Base) (H es : List Tried) (o : Offered) → IsRightOffer b H o → HasNoneBy o.worker es → IsRightOffer b (H ++ es) o
right-stays b H es o right none =
    let seen = right.seen in
    let front = take-append-le o.seen H es seen in
    let there = plan_at-earlier b H es o.seen seen in
    let len = length-append H es in
    record {
      worker = right.worker;
      number = number-same b.options H (H ++ es) o.worker (last_by-others o.worker H es none) ∙ right.number;
      move = right.move;
      seen = omega (arith, len, seen);
      after_own = seen_own-others o.worker o.seen H es none right.after_own;
      price = right.price ∙ sym (ap (λ P. price_of_all b.instance P o.moves) there);
      reads = λ asked. right.reads asked ∙ sym (ap (λ G. reads_after b G o.moves) front);
      frozen = right.frozen ∙ sym (ap (λ P. is_frozen b P o.moves) there);
    }

-- a replica of the empty history stands for a beginning of any
pub new-within : (b : Base) (H : List Tried) (r : ReplicaState) → IsReplicaOf b [] r → IsReplicaIn b H r
new-within b H r stands = subst (λ k. IsReplicaOf b (take k H) r) (sym stands.seen) stands
