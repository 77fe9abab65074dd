-- A worker that looks: how far it is then in the history.
use Rattle.std.proofs.Common.{◌≡◌, ◌≢◌, ℕ, ◌+◌, ◌<◌, ◌≤◌, sym, ap, ◌∙◌, subst, arith, List, [], ◌∷◌, ◌++◌, append_assoc, length, length-append, take, drop}
use Rattle.std.proofs.lemmas.List.{append-nil}
use Rattle.std.proofs.lemmas.List.Elements.{All-append, All-nil}
use Rattle.std.proofs.lemmas.Option.{slice_get_within}
use Rattle.ih_journal.specs.Tried.{Tried}
use Rattle.ih_journal.specs.declared.entries.Verdict.{Verdict}
use Rattle.ih_journal.specs.Base.{Base}
use Rattle.ih_journal.specs.Settings.{most_entries}
use Rattle.ih_cellbook.proofs.EntryLimits.{legal-few}
use Rattle.ih_cellbook.specs.Laws.{HasNoneBy}
use Rattle.ih_cellbook.specs.Legal.{AreLegalButDraws}
use Rattle.ih_cellbook.specs.Offered.{Offered}
use Rattle.ih_cellbook.specs.Offers.{HasSeenOwn, entry_of}
use Rattle.ih_cellbook.proofs.Staying.{seen_own-others}
use Rattle.ih_cellbook.specs.Replicas.{IsReplicaIn, StandsUpTo}
use Rattle.ih_cellbook.specs.ReplicaState.{ReplicaState}
use Rattle.ih_cellbook.specs.News.{NewsState, TellsOf}
use Rattle.ih_cellbook.proofs.NewsLemmas.{tells-further}
use Rattle.ih_cellbook.proofs.Within.{stands-behind, told-further, told-seen}
use Rattle.ih_turn.specs.Rule.{GoesOn}
use Rattle.ih_desk.specs.Histories.{EndsWith}
use Rattle.ih_desk.proofs.HistoryLemmas.{none_by-others}
use Rattle.ih_plan.proofs.ReadLemmas.{get-drop}

-- who has seen its own entries has none among the others
pub none-past : (w s : ℕ) (H : List Tried) → HasSeenOwn H w s → HasNoneBy w (drop s H)
none-past w s H own k e there by = let below = own (s + k) e (sym (get-drop s H k) ∙ there) by in absurd (omega arith)

pub own-all : (w : ℕ) (H : List Tried) → HasSeenOwn H w (length H)
own-all w H k e there by = slice_get_within H k e there

pub own-later : (w s t : ℕ) (H : List Tried) → HasSeenOwn H w s → s ≤ t → HasSeenOwn H w t
own-later w s t H own h k e there by = let below = own k e there by in omega arith

pub own-goes_on : (w s : ℕ) (H G : List Tried) → GoesOn (λ e. e.worker) w H G → HasSeenOwn H w s → HasSeenOwn G w s
own-goes_on w s H G goes own = subst (λ F. HasSeenOwn F w s) (sym goes.history) (seen_own-others w s H goes.others (none_by-others w goes.others goes.none) own)

pub goes_on-none : (w : ℕ) (H : List Tried) → GoesOn (λ e. e.worker) w H H
goes_on-none w H = record { others = []; history = sym (append-nil H); none = All-nil (λ e. e.worker ≢ w) }

pub goes_on-further : (w : ℕ) (H G F : List Tried) → GoesOn (λ e. e.worker) w H G → GoesOn (λ e. e.worker) w G F → GoesOn (λ e. e.worker) w H F
goes_on-further w H G F one two = record {
  others = one.others ++ two.others;
  history = two.history ∙ (ap (λ X. X ++ two.others) one.history ∙ append_assoc H one.others two.others);
  none = All-append (λ e. e.worker ≢ w) one.others two.others one.none two.none;
}

pub goes-length : (w : ℕ) (H G : List Tried) → GoesOn (λ e. e.worker) w H G → length H ≤ length G
goes-length w H G goes = let both = ap length goes.history ∙ length-append H goes.others in omega (arith, both)

-- an offer adds its own entry at least
pub ends-longer : (b : Base) (o : Offered) (v : Verdict) (H G : List Tried) → EndsWith b o v H G → length H < length G
ends-longer b o v H G ends =
    let all = ap length ends.history in
    let last = length-append (H ++ ends.others) (entry_of b (H ++ ends.others) o v ∷ []) in
    let before = length-append H ends.others in
    omega (arith, all, last, before)

-- the replica stays where it is while others go on
pub stays : (b : Base) (w : ℕ) (H G : List Tried) (r : ReplicaState) → GoesOn (λ e. e.worker) w H G → IsReplicaIn b H r → IsReplicaIn b G r
stays b w H G r goes stands = subst (λ F. IsReplicaIn b F r) (sym goes.history) (stands-behind b H r stands goes.others)

-- once it has taken over what it is told, it has seen more, where there was more
pub further : (b : Base) (G : List Tried) (r : ReplicaState) (n : NewsState) (s : ReplicaState) → IsReplicaIn b G r → AreLegalButDraws b G → TellsOf G r.seen n → StandsUpTo r n.accepted n.until s
    → r.seen < length G → r.seen < s.seen
further b G r n s stands legal told later more =
    let seen = told-seen b G r stands n legal told s later in
    let until = tells-further G r.seen n told more in
    omega (arith, seen, until)

-- a replica that takes over what a look told: it stands for a beginning still, and has seen more, where there was more
pub taken-over : (b : Base) (w : ℕ) (H G : List Tried) (r : ReplicaState) (n : NewsState) (seen until : ℕ) (accepted : List Tried) (s : ReplicaState)
    → seen ≡ r.seen → accepted ≡ n.accepted → until ≡ n.until → IsReplicaIn b H r → GoesOn (λ e. e.worker) w H G → AreLegalButDraws b G → TellsOf G seen n
    → StandsUpTo r accepted until s → IsReplicaIn b G s × (r.seen < length H → r.seen < s.seen)
taken-over b w H G r n seen until accepted s same all end stands goes legal tells later =
    let told = subst (λ k. TellsOf G k n) same tells in
    let behind = stays b w H G r goes stands in
    let up = subst (λ es. StandsUpTo r es n.until s) all (subst (λ k. StandsUpTo r accepted k s) end later) in
    let longer = goes-length w H G goes in
    (told-further b G r behind n legal told s up, λ new. further b G r n s behind legal told up (omega (arith, new, longer)))

-- a replica has seen no more than there may be, so a turn is left
pub has-turn : (b : Base) (H : List Tried) (r : ReplicaState) (left : ℕ) → IsReplicaIn b H r → most_entries b.options < left + r.seen → 0 < left
has-turn b H r left stands has = let few = (legal-few b (take r.seen H) stands.legal).most in let seen = stands.seen in omega (arith, few, seen, has)

-- A worker that made nothing has seen all that it made
pub own-none : (w s : ℕ) (H : List Tried) → HasNoneBy w H → HasSeenOwn H w s
own-none w s H none k e there by = absurd (none k e there by)
