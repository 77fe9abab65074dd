-- Replicas that stand for the first entries of a longer history, as a book has it.
use Rattle.std.proofs.Common.{◌≡◌, ℕ, ◌+◌, ◌-◌, ◌<◌, ◌≤◌, arith, sym, ap, ◌∙◌, subst, List, ◌++◌, length, length-append, take, drop, Some, None}
use Rattle.std.specs.Prelude.{option_map, if◌then◌else◌}
use Rattle.std.proofs.Math.Seq.{take-add, take-append_seam}
use Rattle.std.proofs.lemmas.List.{length-drop, length-take, take-append-drop, take-append-le}
use Rattle.std.proofs.lemmas.Option.{slice_get_within}
use Rattle.ih_plan.specs.declared.moves.Move.{Move}
use Rattle.ih_plan.proofs.ReadLemmas.{get-front}
use Rattle.ih_journal.specs.Tried.{Tried}
use Rattle.ih_journal.specs.declared.settings.Options.{Options}
use Rattle.ih_journal.specs.Attempts.{TryNumber, try_after, is_done, is_done_after, next_try}
use Rattle.ih_journal.specs.Base.{Base}
use Rattle.ih_journal.specs.Legal.{IsLegalButDraw}
use Rattle.ih_cellbook.specs.Offered.{Offered}
use Rattle.ih_cellbook.specs.Laws.{HasNoneBy}
use Rattle.ih_cellbook.specs.Legal.{AreLegalButDraws}
use Rattle.ih_cellbook.specs.Offers.{IsRightOffer, next_number}
use Rattle.ih_cellbook.proofs.Staying.{last_by-others, right-stays}
use Rattle.ih_cellbook.specs.Replicas.{AreUpTo, IsReplicaOf, IsReplicaIn, IsOfferOf, IsRightFor, MayFollow, MayFollowUpTo, StandsAfter, StandsAs, StandsUpTo}
use Rattle.ih_cellbook.specs.ReplicaState.{ReplicaState}
use Rattle.ih_cellbook.specs.News.{NewsState, TellsOf}

-- the first entries of a legal history are one
legal-front : (b : Base) (G rest : List Tried) → AreLegalButDraws b (G ++ rest) → AreLegalButDraws b G
legal-front b G rest legal k e there =
    let below = slice_get_within G k e there in
    subst (λ F. IsLegalButDraw b F e) (take-append-le k G rest (omega (arith, below))) (legal k e (get-front G rest k e there))

number-same : (o : Options) (G es : List Tried) (w : ℕ) → HasNoneBy w es → next_number o (G ++ es) w ≡ next_number o G w
unfolding next_try is_done
number-same o G es w none = ap (λ l. option_map (λ (a : TryNumber). a.number) (if is_done_after o l then None else Some (try_after o l))) (last_by-others w G es none)

module _ (b : Base) (H : List Tried) (r : ReplicaState) (stands : IsReplicaIn b H r) where
  pub seen-within : r.seen ≤ length H
  seen-within = let same = stands.seen in let len = length-take r.seen H in omega (arith, same, len)

  next-legal : (n : ℕ) → AreLegalButDraws b H → AreLegalButDraws b (take r.seen H ++ take n (drop r.seen H))
  next-legal n legal =
      subst (AreLegalButDraws b) (take-add r.seen n H) (legal-front b (take (r.seen + n) H) (drop (r.seen + n) H) (subst (AreLegalButDraws b) (sym (take-append-drop (r.seen + n) H)) legal))

  -- what the book has past it may follow
  pub next-follow : (n : ℕ) → AreLegalButDraws b H → MayFollow r (take n (drop r.seen H))
  next-follow n legal = (b, take r.seen H, stands, next-legal n legal)

  -- once it has taken that over, it is further in the history
  pub stands-further : (n : ℕ) (s : ReplicaState) → AreLegalButDraws b H → StandsAfter r (take n (drop r.seen H)) s → IsReplicaIn b H s
  stands-further n s legal later =
      let taken = later b (take r.seen H) stands (next-legal n legal) in
      let part : take r.seen H ++ take n (drop r.seen H) ≡ take (r.seen + n) H = sym (take-add r.seen n H) in
      let front : take s.seen H ≡ take (r.seen + n) H =
      ap (λ k. take k H) (taken.seen ∙ ap length part)
      ∙ ap (take (length (take (r.seen + n) H))) (sym (take-append-drop (r.seen + n) H))
      ∙ take-append_seam (take (r.seen + n) H) (drop (r.seen + n) H) in
      subst (λ G. IsReplicaOf b G s) (part ∙ sym front) taken

  -- the same of what it is told of the book from where it stands
  module _ (n : NewsState) (legal : AreLegalButDraws b H) (told : TellsOf H r.seen n) where
    told-up_to : AreUpTo r n.accepted n.until (take (n.until - r.seen) (drop r.seen H))
    told-up_to =
        let since = told.since in
        let within = told.within in
        let front = told.front in
        let taken = length-take (n.until - r.seen) (drop r.seen H) in
        let left = length-drop r.seen H in
        record { accepted_are = told.accepted; place = omega (arith, since, within, front, taken, left) }

    pub told-follow : MayFollowUpTo r n.accepted n.until
    told-follow = (take (n.until - r.seen) (drop r.seen H), told-up_to, next-follow (n.until - r.seen) legal)

    module _ (s : ReplicaState) (later : StandsUpTo r n.accepted n.until s) where
      pub told-further : IsReplicaIn b H s
      told-further = stands-further (n.until - r.seen) s legal (later (take (n.until - r.seen) (drop r.seen H)) told-up_to)

      pub told-seen : s.seen ≡ n.until
      told-seen =
          let part = take (n.until - r.seen) (drop r.seen H) in
          let seen = (later part told-up_to b (take r.seen H) stands (next-legal (n.until - r.seen) legal)).seen in
          let both = length-append (take r.seen H) part in
          let before = stands.seen in
          let place = told-up_to.place in
          omega (arith, seen, both, before, place)

  pub stands-same : (s : ReplicaState) → StandsAs r s → IsReplicaIn b H s
  stands-same s same =
      let there = same b (take r.seen H) stands in
      subst (λ k. IsReplicaOf b (take k H) s) (stands.seen ∙ sym there.seen) there

  -- it stays where it is while entries come behind
  pub stands-behind : (es : List Tried) → IsReplicaIn b (H ++ es) r
  stands-behind es = subst (λ G. IsReplicaOf b G r) (sym (take-append-le r.seen H es seen-within)) stands

  -- its offer is right for the whole history where its worker has no entry that it hasn't seen
  right-within : (n : ℕ) (o : Offered) → IsRightFor r n o → o.worker ≡ r.worker → o.worker < b.options.workers → next_number b.options H o.worker ≡ Some n → HasNoneBy o.worker (drop r.seen H)
      → IsRightOffer b H o
  right-within n o right own worker number none =
      let earlier : next_number b.options (take r.seen H) o.worker ≡ Some n =
      sym (number-same b.options (take r.seen H) (drop r.seen H) o.worker none) ∙ ap (λ G. next_number b.options G o.worker) (take-append-drop r.seen H) ∙ number in
      let there = right b (take r.seen H) stands (subst (λ w. w < b.options.workers) own worker) (subst (λ w. next_number b.options (take r.seen H) w ≡ Some n) own earlier) in
      subst (λ G. IsRightOffer b G o) (take-append-drop r.seen H) (right-stays b (take r.seen H) (drop r.seen H) o there none)

  module _ (n : ℕ) (m : List Move) (o : Offered) (offered : IsOfferOf r n m o) where
    offered-at : o.seen ≡ r.seen
    offered-at = (offered b (take r.seen H) stands).seen ∙ sym stands.seen

    pub offered-seen : o.seen ≤ length H
    offered-seen = let same = offered-at in let most = seen-within in omega (arith, same, most)

    pub offered-right : IsRightFor r n o → (o.worker < b.options.workers) × (next_number b.options H o.worker ≡ Some o.number) × HasNoneBy o.worker (drop o.seen H) → IsRightOffer b H o
    offered-right right may =
        let there = offered b (take r.seen H) stands in
        right-within n o right there.worker may.0 (may.1 ∙ ap (λ k. Some k) there.number) (subst (λ k. HasNoneBy o.worker (drop k H)) offered-at may.2)
