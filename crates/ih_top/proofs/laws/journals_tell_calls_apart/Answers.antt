use Rattle.std.proofs.Common.{◌≡◌, ◌∙◌, ℕ, ap, arith, sym, List, length, Some}
use Rattle.std.specs.Prelude.{Ok}
use Rattle.std.proofs.lemmas.List.{length-map}
use Rattle.ih_top.specs.Below.Wards.{Draft, instance}
use Rattle.ih_top.specs.Below.Arguments.{NamedCallsAreWithinLimits, SolveCall, chain, rounds}
use Rattle.ih_top.specs.Below.Endings.{HasInstance, Names, bytes_at}
use Rattle.ih_top.specs.Below.Searches.{Base, ChainJournalsTellSearchesApart, IsSearchBase, JournalsTellRoundsApart, JournalsTellSearchesApart, Options, Round, chain_journal, histories, journal, journals}
use Rattle.ih_instance.proofs.DraftSound.{instance_sound}
use Rattle.ih_top.specs.Laws.{ChainsAreToldApart, RoundsAreToldApart, SolvesAreToldApart}
use Rattle.ih_top.specs.Searches.{IsSearch, SearchForm}
use Rattle.ih_top.proofs.laws.journals_tell_calls_apart.Goals as goal

-- files with the same bytes have one instance
instance-one : (old before : Names) (name other : List ℕ) (I J : Draft) → bytes_at old name ≡ bytes_at before other
    → HasInstance name I old → HasInstance other J before → I ≡ J
instance-one old before name other I J bytes here there =
    let same : Ok I ≡ Ok J = sym here.read ∙ (ap instance bytes ∙ there.read) in cc

-- what a search of a call begins with
search-base : {X K : Type 0} (form : SearchForm X K) (files : Names) (s : SolveCall) (b : Base) (H : X) → IsSearch form (Some files) s b H
    → IsSearchBase b
search-base form files s b H search = record {
  valid = instance_sound (bytes_at files s.instance) b.instance search.base.start.inputs.instance.read;
  base = search.given;
  seed = search.seed;
}

solves-apart : JournalsTellSearchesApart → SolvesAreToldApart
solves-apart law s t old new before after b c H G bytes one other same =
    let held : Some (journal b.options H) ≡ Some (journal c.options G) = sym one.written ∙ (same ∙ other.written) in
    let texts : journal b.options H ≡ journal c.options G = cc in
    let inst = instance-one old before s.instance t.instance b.instance c.instance bytes one.search.base.start.inputs.instance other.search.base.start.inputs.instance in
    let apart = law b c H G (search-base _ old s b H one.search) (search-base _ before t c G other.search) inst
    (λ k e h. (one.search.made.full.legal k e h).entry) (λ k e h. (other.search.made.full.legal k e h).entry) texts in
    (sym one.search.base.options ∙ (apart.0 ∙ other.search.base.options), apart.1)

chains-apart : NamedCallsAreWithinLimits → ChainJournalsTellSearchesApart → ChainsAreToldApart
chains-apart limited law s t old new before after b c H G first second bytes one other same =
    let held : Some (chain_journal b.options s.number H) ≡ Some (chain_journal c.options t.number G) = sym one.written ∙ (same ∙ other.written) in
    let texts : chain_journal b.options s.number H ≡ chain_journal c.options t.number G = cc in
    let here = limited (chain s) first in
    let there = limited (chain t) second in
    let inst = instance-one old before s.search.instance t.search.instance b.instance c.instance bytes one.search.base.start.inputs.instance other.search.base.start.inputs.instance in
    let apart = law b c s.number t.number H G (search-base _ old s.search b H one.search) (search-base _ before t.search c G other.search) inst
    (ap (λ (o : Options). o.retries) one.search.base.options ∙ here.once) (ap (λ (o : Options). o.retries) other.search.base.options ∙ there.once)
    here.most there.most (λ k e h. (one.search.made.full.legal k e h).entry) (λ k e h. (other.search.made.full.legal k e h).entry) texts in
    (sym one.search.base.options ∙ (apart.0 ∙ other.search.base.options), apart.1, apart.2)

as-many : (rs ss : List Round) → histories rs ≡ histories ss → length rs ≡ length ss
as-many rs ss same = sym (length-map rs (λ (r : Round). r.history)) ∙ (ap length same ∙ length-map ss (λ (r : Round). r.history))

rounds-apart : NamedCallsAreWithinLimits → JournalsTellRoundsApart → RoundsAreToldApart
rounds-apart limited law s t old new before after b c rs ss first second bytes one other same =
    let held : Some (journals b.options 0 rs) ≡ Some (journals c.options 0 ss) = sym one.written ∙ (same ∙ other.written) in
    let texts : journals b.options 0 rs ≡ journals c.options 0 ss = cc in
    let some = (limited (rounds s) first).some in
    let count = one.search.made.count_is in
    let inst = instance-one old before s.search.instance t.search.instance b.instance c.instance bytes one.search.base.start.inputs.instance other.search.base.start.inputs.instance in
    let apart = law b c rs ss (search-base _ old s.search b rs one.search) (search-base _ before t.search c ss other.search) inst one.search.made.legal other.search.made.legal texts in (
      sym one.search.base.options ∙ (apart.1 (omega (arith, some, count)) ∙ other.search.base.options),
      sym count ∙ (as-many rs ss apart.0 ∙ other.search.made.count_is),
      apart.0,
    )

pub returns : goal.returns
returns c = record {
  solve = solves-apart c.journals_tell_searches_apart.ensures;
  chain = chains-apart c.named_calls_are_within_limits.ensures c.chain_journals_tell_searches_apart.ensures;
  rounds = rounds-apart c.named_calls_are_within_limits.ensures c.journals_tell_rounds_apart.ensures;
}
