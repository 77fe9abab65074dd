use Rattle.std.proofs.Common.{append_assoc}
use Rattle.ih_carry.proofs.accounts.put_choices.Goals as goal

pub returns : goal.returns
returns c =
    rw (c.in_ok-put_number-3.ensures, c.in_ok-put_number-2.ensures, c.in_ok-put_number.ensures, append_assoc, append_assoc, append_assoc) at c.put_number-4.ensures
