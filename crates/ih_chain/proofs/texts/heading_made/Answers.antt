use Rattle.std.proofs.Common.{sym}
use Rattle.ih_chain.proofs.Headings.{heading-pieces}
use Rattle.ih_chain.proofs.texts.heading_made.Goals as goal

pub returns : goal.returns
returns c =
    rw (
      c.in_ok-push_str-2.ensures.bytes,
      c.in_ok-put_option-6.ensures,
      c.in_ok-put_option-5.ensures,
      c.in_ok-put_option-4.ensures,
      c.in_ok-put_option-3.ensures,
      c.in_ok-put_option-2.ensures,
      c.in_ok-put_option.ensures,
      c.in_ok-push_str.ensures.bytes,
      c.in_ok-made.ensures.bytes,
    )
    (sym (heading-pieces c.args.options.now c.args.length))
