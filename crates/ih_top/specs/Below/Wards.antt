-- Wards, timetables and what they cost.
pub use Rattle.ih_tables.specs.Bills.{feasible}
pub use Rattle.ih_tables.specs.Valid.{IsValid}
pub use Rattle.ih_tables.specs.declared.bills.Bill.{Bill}
pub use Rattle.ih_tables.specs.declared.bills.Weights.{Weights}
pub use Rattle.ih_tables.specs.declared.drafts.Draft.{Draft}
pub use Rattle.ih_tables.specs.declared.journal_refusals.JournalRefusal.{JournalRefusal}
pub use Rattle.ih_tables.specs.declared.journal_refusals.Reason.{Reason}
pub use Rattle.ih_tables.specs.declared.journal_refusals.Reason.TheVariants.{Early, Extra, Grammar, Heading, Move, Number, Place, Price, Seen, Try, Verdict, Worker}
pub use Rattle.ih_plan.specs.BillOf.{bill_of}
pub use Rattle.ih_plan.specs.Timetable.{IsPlanOf, Timetable, empty, stay_of}
pub use Rattle.ih_solution.specs.Reading.{plan_in}
pub use Rattle.ih_solution.specs.Solution.{solution}
pub use Rattle.ih_validate.specs.Report.{report}
pub use Rattle.ih_instance.specs.Instance.{instance}
