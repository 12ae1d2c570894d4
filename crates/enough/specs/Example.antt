-- What a file needs by example: a list beside a string and a number, a grid in a part of a complex record after another part, and a complex
-- record whose arguments are a list as they stand. Assumes nothing.
use Rattle.std.specs.Prelude.{◌≡◌, refl}
use Rattle.error.specs.Refusal.{good}
use Rattle.common.specs.Walk.{walk}
use Rattle.lex.specs.Search.{trivia, record_end, closing}
use Rattle.common.specs.Bytes.{bytes}
use Rattle.record.specs.Text.{past, number_from, keyword, trail}
use Rattle.record.specs.Word.{word_of}
use Rattle.record.specs.Head.{data_head, header_head}
use Rattle.statement.specs.Row as Row
use Rattle.statement.specs.Statement.{statement}
use Rattle.scan.specs.Records.{largest}
use Rattle.scan.specs.File.{read_from, scan_of}
use Rattle.parts.specs.Part as Part
use Rattle.params.specs.ParameterEnd.{cut_of, started}
use Rattle.params.specs.Reader.{param_of}
use Rattle.utf8.specs.Utf8.{encode, lead_of}
use Rattle.utf8.specs.Encoding.{encode_all}
use Rattle.strings.specs.Text.{group_two, group_four, groups_from, directive_of, piece_of, page_after, text_from, text_on, text_of, bytes_of}
use Rattle.tokens.specs.TokenRests.{string_rest, comment_rest}
use Rattle.tokens.specs.Answer.{from_byte}
use Rattle.words.specs.Words.{is_string}
use Rattle.lists.specs.Items.{item_end, item_text, indent, item_by, items_from, is_blank, items_by, body_of, list_by}
use Rattle.argument_sizes.specs.Rules.{text_len, items_len, numbers_len, rows_len, sizes}
use Rattle.argument_sizes.specs.Lengths.{args_from, part_sizes_from, record_sizes_of}
use Rattle.needs.specs.Needs.{most_of, needs, needs_of}

-- no header row and three data rows, the largest id 3, a list of five, the text `it's` and a grid of three rows with four numbers
pub enough_example : needs_of (bytes "ISO-10303-21;DATA;#1=A((1.,2.,3.),'it''s',4);#2=(B()C(((1,2),(3,4),())));#3=((1,2,3,4,5));") ≡ good (needs 0 3 3 (sizes 4 5 3))
unfolding walk trivia record_end closing past number_from keyword trail word_of data_head header_head Row.record_of Row.header_of statement largest read_from scan_of Part.next_part_of cut_of started param_of encode encode_all lead_of group_two group_four groups_from directive_of piece_of page_after text_from text_on text_of bytes_of from_byte string_rest comment_rest is_string item_end item_text indent item_by items_from is_blank items_by body_of list_by text_len items_len numbers_len rows_len args_from part_sizes_from record_sizes_of most_of needs_of
enough_example = refl
