use Rattle.std.proofs.lemmas.Result.{on_ok_weaker}
use Rattle.ih_chain.proofs.Lines.{line-made, where-ok}
use Rattle.ih_chain.proofs.texts.chain_line.Goals as goal

pub returns : goal.returns
returns c =
    on_ok_weaker c.extend_from_slice-3.result
    (λ last. line-made c.args.out.now.items c.put_field.new.out.items c.put_field-2.new.out.items c.put_field-3.new.out.items
    c.put_field-4.new.out.items c.chain_text.new.out.items c.extend_from_slice.new.self.items c.price_text.new.out.items
    c.extend_from_slice-2.new.self.items c.verdict_text.new.out.items c.extend_from_slice-3.new.self.items
    c.args.place c.args.entry.now c.in_ok-put_field.ensures c.in_ok-put_field-2.ensures c.in_ok-put_field-3.ensures
    c.in_ok-put_field-4.ensures c.in_ok-chain_text.ensures c.in_ok-extend_from_slice.ensures.items c.in_ok-price_text.ensures
    c.in_ok-extend_from_slice-2.ensures.items c.in_ok-verdict_text.ensures last)
    (where-ok c.extend_from_slice-3.result _ _ _ c.extend_from_slice-3.ensures.items)
