use Rattle.ih_commands.proofs.command.perform.Goals as goal

pub returns-in-Improve : goal.returns-in-Improve
returns-in-Improve g c = record { ends = rw c.in-Improve.is c.improve.ensures.ends; once = rw c.in-Improve.is c.improve.ensures.few; cause = c.improve.ensures.cause }

pub returns-in-View : goal.returns-in-View
returns-in-View g c = record { ends = rw c.in-View.is c.perform.ensures.ends; once = rw c.in-View.is c.perform.ensures.once; cause = c.perform.ensures.cause }

pub returns-in-Bound : goal.returns-in-Bound
returns-in-Bound g c = record { ends = rw c.in-Bound.is c.perform-in-Bound.ensures.ends; once = rw c.in-Bound.is c.perform-in-Bound.ensures.once; cause = c.perform-in-Bound.ensures.cause }

pub returns-in-Check : goal.returns-in-Check
returns-in-Check g c = record { ends = rw c.in-Check.is c.perform-in-Check.ensures.ends; once = rw c.in-Check.is c.perform-in-Check.ensures.once; cause = c.perform-in-Check.ensures.cause }

pub returns-in-Carry : goal.returns-in-Carry
returns-in-Carry g c = record { ends = rw c.in-Carry.is c.perform-in-Carry.ensures.ends; once = rw c.in-Carry.is c.perform-in-Carry.ensures.once; cause = c.perform-in-Carry.ensures.cause }

pub returns-in-Table : goal.returns-in-Table
returns-in-Table g c = record { ends = rw c.in-Table.is c.perform-in-Table.ensures.ends; once = rw c.in-Table.is c.perform-in-Table.ensures.once; cause = c.perform-in-Table.ensures.cause }

pub returns-in-Why : goal.returns-in-Why
returns-in-Why g c = record { ends = rw c.in-Why.is c.perform-in-Why.ensures.ends; once = rw c.in-Why.is c.perform-in-Why.ensures.once; cause = c.perform-in-Why.ensures.cause }
