use Rattle.std.proofs.Common.{◌≡◌, ◌≤◌, ◌∙◌, ap, arith, false, map, refl, subst, sym, true, ℕ, List, Some}
use Rattle.ih_optimizer.specs.Below.Wards.{Draft}
use Rattle.ih_optimizer.specs.Below.Arguments.{Text}
use Rattle.ih_optimizer.specs.Below.Endings.{Answers, EndsUnread, HasGiven, InputFiles, given_of}
use Rattle.ih_optimizer.specs.Below.Searches.{Leaves}
use Rattle.ih_optimizer.specs.Pinning.{first_unknown}
use Rattle.ih_endings.proofs.Files.{told-same}
use Rattle.ih_frame.proofs.Begun.{begun-ended}
use Rattle.ih_optimizer.specs.Call.{improve_call, improve_inputs, reading}
use Rattle.ih_optimizer.specs.Rounds.{IsRound, IsSearched}
use Rattle.ih_optimizer.specs.Pacing.{IsLawfulPace, most_rounds, rounds_left}
use Rattle.ih_optimizer.specs.declared.times.Times.{Times}
use Rattle.ih_optimizer.specs.Searching.{IsLimit, IsSearch, task_of}
use Rattle.ih_optimizer.specs.declared.pacing.Pace.{Pace}
use Rattle.ih_optimizer.proofs.ImproveEnding.{nobody-ended, search-ended, unbegun-call, unread-call}
use Rattle.ih_optimizer.proofs.SameSearches.{rounds-few, search-of}
use Rattle.ih_optimizer.proofs.improving.improve.Goals as goal

pub returns-in-Err-clause-ends : goal.returns-in-Err-clause-ends
returns-in-Err-clause-ends g c =
    let names = g.S.Shelf.names c.args.shelf.now in
    let unread = subst (λ (f : InputFiles). Answers (EndsUnread names f) c.in-Err.answer) c.names_of.ensures c.in-Err.ensures.unread in
    unread-call (improve_call c.args.call.now) c.finds-is_found.result _ _ c.finds-is_found.ensures _ _ _ (told-same _ _ c.in-Err.ensures.only.kept)
    c.in-Err.answer unread c.conclude.result c.in-Err.ensures.cause c.conclude.ensures.said

pub go_on-requires-sync-R : goal.go_on-requires-sync-R
go_on-requires-sync-R g c κs within =
    let s = c.in-Ok-search_from.ensures in
    let search = c.in-Ok-search_from.search in
    let call = improve_call c.args.call.now in (
      c.type_bounds.sync-R,
      (
        (refl, tt),
        (
          (
            s.instance,
            subst IsLawfulPace (sym s.pace) c.requires.pace,
            λ over. absurd (let no : false ≡ true = sym c.begin-times.ensures ∙ (ap (λ (t : Times). t.is_over) (sym s.times) ∙ over) in cc),
            s.held_plan,
          ),
          subst (λ (n : ℕ). rounds_left search.pace.length search.pace.rounds search.times.is_over search.improver.rounds ≤ n) (sym c.most_rounds.ensures)
              (subst (λ (p : Pace). rounds_left search.pace.length search.pace.rounds search.times.is_over search.improver.rounds ≤ most_rounds p.length p.rounds)
              s.pace (rounds-few search.pace.length search.pace.rounds search.times.is_over search.improver.rounds)),
        ),
      ),
    )

pub returns-in-Ok-search_from-clause-ends : goal.returns-in-Ok-search_from-clause-ends
returns-in-Ok-search_from-clause-ends g c =
    let call = improve_call c.args.call.now in
    let found = c.finds-is_found.result in
    let x = reading found call in
    let names = g.S.Shelf.names c.args.shelf.now in
    let only = c.in-Ok.ensures.only in
    let same = only.other_count in
    let s = c.in-Ok-search_from.ensures in
    let search = c.in-Ok-search_from.search in
    let bound = c.in-Ok-limit_of.bound in
    let read = subst (λ (f : InputFiles). HasGiven names f (given_of c.in-Ok.inputs)) c.names_of.ensures c.in-Ok.ensures.read in
    let same_instance : c.deref-2.result.now.draft ≡ c.in-Ok.inputs.inst.value.draft = cc in
    let limit = subst (λ (X : Draft). IsLimit call.is_bounded X bound) same_instance c.in-Ok-limit_of.ensures in
    let is = search-of names found call (given_of c.in-Ok.inputs) bound search.improver read limit s.search in
    let held = c.in-Ok.inputs.older in
    search-ended call found _ _ c.finds-is_found.ensures _ _ _ held bound c.go_on.result
    (begun-ended (IsSearch names x held bound) (IsRound Leaves (task_of x held bound)) (IsSearched (task_of x held bound))
    (most_rounds call.pace.length call.pace.rounds) (improve_inputs x) _ _ _ _ (g.S.Shelf.names c.read_or_answer.new.shelf) only.kept
    search.improver is _ _ _ _ _ _ only.count (omega (arith, same)) c.go_on.result
    (rw (ap (λ t. t.now) s.out, s.held, s.draft, s.bound, s.pace, c.most_rounds.ensures) at c.go_on.ensures.ends))

pub returns-in_default-limit_of-clause-ends : goal.returns-in_default-limit_of-clause-ends
returns-in_default-limit_of-clause-ends g c =
    let memory = c.conclude_memory in
    unbegun-call (improve_call c.args.call.now) c.finds-is_found.result _ _ c.finds-is_found.ensures _ _ _ (told-same _ _ c.in-Ok.ensures.only.kept)
    tt memory.ensures.said memory.result memory.ensures.status

pub returns-clause-ends : goal.returns-clause-ends
returns-clause-ends g c =
    let memory = c.conclude_memory-in-Err-search_from in
    unbegun-call (improve_call c.args.call.now) c.finds-is_found.result _ _ c.finds-is_found.ensures _ _ _ (told-same _ _ c.in-Ok.ensures.only.kept)
    tt memory.ensures.said memory.result memory.ensures.status

pub returns-in-Some-clause-ends : goal.returns-in-Some-clause-ends
returns-in-Some-clause-ends g c =
    let call = improve_call c.args.call.now in
    let names = g.S.Shelf.names c.args.shelf.now in
    let given = given_of c.in-Ok.inputs in
    let read = subst (λ (f : InputFiles). HasGiven names f given) c.names_of.ensures c.in-Ok.ensures.read in
    let id = c.in-Some.id.now in
    let same : c.deref.result.now.draft ≡ given.instance = cc in
    let pins : map (λ t. t.now) c.as_slice.result.now ≡ call.pins = ap (map (λ t. t.now)) c.as_slice.ensures.value in
    let found : first_unknown c.deref.result.now.draft (map (λ t. t.now) c.as_slice.result.now) ≡ Some id = sym (rw c.in-Some.is at c.first_unknown.ensures) in
    let unknown : first_unknown given.instance call.pins ≡ Some id =
    subst (λ (I : Draft). first_unknown I call.pins ≡ Some id) same
    (subst (λ (ids : List Text). first_unknown c.deref.result.now.draft ids ≡ Some id) pins found) in
    nobody-ended call c.finds-is_found.result _ _ c.finds-is_found.ensures _ _ _ (told-same _ _ c.in-Ok.ensures.only.kept)
    given.instance given.plan read.inputs id unknown c.pins_nobody.result c.pins_nobody.ensures tt tt c.conclude-in-Some.result c.conclude-in-Some.ensures.said
