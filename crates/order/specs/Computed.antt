-- What is unfolded where a file is computed: to unfold one of these is to unfold all that its line names. Assumes nothing.
use Rattle.std.specs.Float.Ieee.{size}
use Rattle.common.specs.Walk.{walk}
use Rattle.lex.specs.Search.{trivia, record_end, closing}
use Rattle.record.specs.Text.{past, number_from, keyword, trail}
use Rattle.record.specs.Word.{word_of}
use Rattle.record.specs.Head.{data_head, header_head}
use Rattle.statement.specs.Row.{record_of, header_of}
use Rattle.statement.specs.Statement.{statement}
use Rattle.scan.specs.File.{read_from, scan_of}
use Rattle.kinds.specs.Kind.{kind_of_keyword}
use Rattle.parts.specs.Part as Part
use Rattle.params.specs.ParameterEnd.{cut_of, started}
use Rattle.params.specs.Reader.{param_of}
use Rattle.params.specs.Skips.{skip_of}
use Rattle.scalars.specs.Scalars.{kernel_of, measure_of}
use Rattle.scalars.specs.Answer.{next_of}
use Rattle.reals.specs.Scalar.{parse_of, real_of, whole_of, reference_of}
use Rattle.prefixes.specs.Prefix.{place_in}
use Rattle.lists.specs.Items.{item_end, item_text, indent, item_by, items_from, is_blank, items_by, body_of, list_by}
use Rattle.lists.specs.Answer.{next_by}
use Rattle.factors.specs.Unit.{si_length, si_angle, measure_ref}
use Rattle.factors.specs.Factor.{link_of, measure_in, length_of, angle_number, angle_of}
use Rattle.units.specs.Answer.{is_context, refs_in, uncertainty_by}
use Rattle.units.specs.Units.{unit_by, units_by, tolerance_by, listed_units, listed_tolerance, context_of, resolve_of}
use Rattle.nearest.specs.Near.{near, near_units}
use Rattle.nearest.specs.Product.{worth_of}
use Rattle.nearest.specs.PatternUnits as Nearest
use Rattle.tokens.specs.TokenRests.{string_rest, comment_rest}
use Rattle.tokens.specs.Answer.{from_byte}
use Rattle.words.specs.Words.{is_name}
use Rattle.utf8.specs.Utf8.{valid_from, lead_of}
use Rattle.lookup.specs.Records.{last_of}
use Rattle.order.specs.Order.{those, context_text}
use Rattle.order.specs.Check.{clear, closed_by, args_at, parts_closed, data_closed, header_closed, closed_from, cut_from}

-- what is unfolded to read a file
unfoldable pub reading_unfolded : Unit {0}
unfolding walk trivia record_end closing past number_from keyword trail word_of data_head header_head record_of header_of statement read_from scan_of
reading_unfolded = tt

-- what is unfolded to cut a file, and to tell whether it is closed
unfoldable pub checking : Unit {0}
unfolding reading_unfolded clear closed_by args_at parts_closed data_closed header_closed closed_from cut_from
checking = tt

-- what is unfolded for the unit answer, and to tell which texts are unit contexts
unfoldable pub resolving : Unit {0}
unfolding reading_unfolded those context_text last_of kind_of_keyword Part.next_part_of Part.parts_from cut_of started param_of skip_of kernel_of measure_of next_of parse_of real_of whole_of reference_of place_in item_end item_text indent item_by items_from is_blank items_by body_of list_by next_by si_length si_angle measure_ref link_of measure_in length_of angle_number angle_of is_context refs_in unit_by units_by uncertainty_by tolerance_by listed_units listed_tolerance context_of resolve_of size near near_units worth_of Nearest.pattern_units from_byte string_rest comment_rest is_name valid_from lead_of
resolving = tt
