-- Points that document 01 leaves to the Rust, for names and string parameters. Assumes nothing.
use Rattle.std.specs.Prelude.{◌≡◌, refl, [], ◌∷◌}
use Rattle.error.specs.Refusal.{refusal, good, bad}
use Rattle.common.specs.Bytes.{bytes}
use Rattle.utf8.specs.Utf8.{encode, lead_of, valid_from}
use Rattle.utf8.specs.Encoding.{encode_all}
use Rattle.strings.specs.Text.{plain, piece_of, page_after, text_from, text_on, text_of, bytes_of}
use Rattle.params.specs.Answer.{span}
use Rattle.scalars.specs.Scalars.{is_unset}
use Rattle.words.specs.Words.{is_name, name_at, is_string, string_at, room_at}
use Rattle.words.specs.declared.Text.TheVariants.{InRoom}

-- `..` is an empty name
empty_name : name_at (bytes "..") (span 0 2) ≡ good (span 1 1)
unfolding is_name valid_from
empty_name = refl

-- `.` is no name
one_dot : name_at (bytes ".") (span 0 1) ≡ bad (refusal 12 0 0)
unfolding is_name
one_dot = refl

-- bytes that are not valid UTF-8 between two dots are no name: C0 80
overlong_name : name_at (46 ∷ 0xc0 ∷ 0x80 ∷ 46 ∷ []) (span 0 4) ≡ bad (refusal 12 0 0)
unfolding is_name valid_from lead_of
overlong_name = refl

-- an empty parameter is no name
nameless : name_at [] (span 0 0) ≡ bad (refusal 12 0 0)
unfolding is_name
nameless = refl

-- an empty parameter is no text
textless : string_at [] 0 (span 0 0) ≡ bad (refusal 12 0 0)
unfolding string_at is_unset is_string
textless = refl

-- a quote alone is no string parameter
one_quote : string_at (bytes "'") 0 (span 0 1) ≡ bad (refusal 12 0 0)
unfolding string_at is_unset is_string
one_quote = refl

-- `'a'b` is a string parameter with the text `a'`
half_quoted : string_at (bytes "'a'b") 2 (span 0 4) ≡ good (InRoom 2)
unfolding string_at is_unset is_string plain bytes_of text_of text_on text_from page_after piece_of encode_all encode
half_quoted = refl

-- the text of `'a'b` is written to the room
half_quoted_room : room_at (bytes "'a'b") (0 ∷ 0 ∷ []) (span 0 4) ≡ bytes "a'"
unfolding room_at is_unset is_string plain bytes_of text_of text_on text_from page_after piece_of encode_all encode
half_quoted_room = refl
