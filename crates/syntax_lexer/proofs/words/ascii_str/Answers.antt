use Rattle.std.proofs.lemmas.Str.{IsUtf8-from_ascii}
use Rattle.syntax_lexer.proofs.Names.{word_ascii, is_ok_of}
use Rattle.syntax_lexer.proofs.words.ascii_str.Goals as goal

pub unwrap-requires : goal.unwrap-requires
unwrap-requires c = is_ok_of c.from_utf8.result _ _ _ c.from_utf8.ensures.cases (IsUtf8-from_ascii c.args.text.now (word_ascii c.args.text.now c.requires))
