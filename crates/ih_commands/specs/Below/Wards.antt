-- Wards, timetables and what they cost.
pub use Rattle.ih_tables.specs.Bills.{feasible}
pub use Rattle.ih_tables.specs.declared.drafts.Draft.{Draft}
pub use Rattle.ih_plan.specs.BillOf.{bill_of}
pub use Rattle.ih_plan.specs.Timetable.{IsPlanOf, Timetable}
pub use Rattle.ih_plan.specs.declared.limits.TheConstants.{MAX_FREEZE, MAX_HARD, MAX_HEAT, MAX_WORKERS}
pub use Rattle.ih_solution.specs.Solution.{solution}
pub use Rattle.ih_validate.specs.Report.{report}
