-- What the types of the crate are as plain data.
use Rattle.spec_decode_rows.specs.declared.fields.RowField.{RowField}
use Rattle.spec_decode_rows.specs.declared.overlaps.EarlierRow.{EarlierRow}
use Rattle.spec_decode_rows.specs.Fields as f
use Rattle.spec_decode_rows.specs.Rows as r

abbrev pub field : RowField → f.RowField
field x = record { name = x.name.now; number = x.number; width = x.width }

abbrev pub earlier : EarlierRow → r.EarlierRow
earlier x = record { bits = x.bits.items; case = x.case.now }
