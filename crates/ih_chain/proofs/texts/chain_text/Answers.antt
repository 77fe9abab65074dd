use Rattle.std.proofs.Common.{◌∙◌, sym}
use Rattle.std.proofs.lemmas.Result.{on_ok_weaker}
use Rattle.ih_chain.proofs.Moves.{first-text}
use Rattle.ih_chain.proofs.texts.chain_text.Goals as goal

pub returns-in_ok-text-in-Some : goal.returns-in_ok-text-in-Some
returns-in_ok-text-in-Some c =
    on_ok_weaker c.put_behind.result
    (λ behind. first-text c.args.out.now.items c.text.new.out.items c.put_behind.new.out.items
    c.in-Some.mv.now c.in-Some.rest.now c.args.chain.now
    c.in_ok-text-in-Some.ensures.ok behind (sym c.as_slice.ensures.moves ∙ c.in-Some.ensures.cases.0)) c.put_behind.ensures
