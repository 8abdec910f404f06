-- The node of each production.
pub use Rattle.syntax_grammar.specs.Nodes.{hull, literal_of, pattern_span, pattern_make_of, span_of, let_of, if_of, binary_of, prefix_of, get_of, put_of, call_of, make_of, operation_of, cast_of, arm_of, match_of, paren_of, field_of, case_of, datatype_of, map_of, fun_of, part_of, other_span, guard_of, row_of, decode_of}
