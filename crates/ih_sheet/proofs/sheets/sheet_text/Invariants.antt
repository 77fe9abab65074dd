use Rattle.std.proofs.Common.{◌≡◌, ◌++◌, false, map, take}
use Rattle.csv.specs.Records.{fields_of}
use Rattle.csv.specs.Writing.{default_writer, fields_written, has_written, writer_pending, writer_setup, writer_under}
use Rattle.ih_sheet.specs.Sheets.{sheet_text}
use Rattle.ih_sheet.proofs.sheets.sheet_text.Given as goal

abbrev pub invariant-loop-row : goal.invariant-loop-row
invariant-loop-row l = record {
  text : (writer_under l.writer).items ++ writer_pending l.writer ≡ sheet_text (map fields_of (take l.row-index l.rows));
  setup : writer_setup l.writer ≡ default_writer;
  fields : fields_written l.writer ≡ 0;
  wrote : has_written l.writer ≡ false;
}
