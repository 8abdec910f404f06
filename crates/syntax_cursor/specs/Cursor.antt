-- What contracts see of a cursor.
use Rattle.syntax_cursor.specs.declared.reader.Reader.TheInside.{Inside}
use Rattle.syntax_grammar.specs.State.{At}

abbrev pub at_of : Inside → At
at_of r = record { level = r.level; rest = r.rest.now }
