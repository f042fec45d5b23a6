-- The arguments of an instruction of a circuit, which are cut as those of any text of lines and blocks.
pub use Rattle.stim_lexer.specs.Arguments.{is_comma, before_blanks, trimmed, parts_of}
unfoldable pub use Rattle.stim_lexer.specs.Arguments.{arguments_in}
