-- RFC 3629's worked examples (section 7), and bytes that it refuses (sections 3, 4 and 10). Assumes nothing.
use Rattle.std.specs.Prelude.{◌≡◌, refl, true, false, [], ◌∷◌}
use Rattle.utf8.specs.Utf8.{encode, lead_of, valid_from, valid_of}
use Rattle.utf8.specs.Encoding.{encode_all}
use Rattle.utf8.specs.Answer.{invalid, valid}

-- "U+0041 U+2262 U+0391 U+002E": 41 E2 89 A2 CE 91 2E
not_alpha : encode_all (0x41 ∷ 0x2262 ∷ 0x391 ∷ 0x2e ∷ []) ≡ 0x41 ∷ 0xe2 ∷ 0x89 ∷ 0xa2 ∷ 0xce ∷ 0x91 ∷ 0x2e ∷ []
unfolding encode_all encode
not_alpha = refl

-- "U+D55C U+AD6D U+C5B4": ED 95 9C EA B5 AD EC 96 B4
korean : encode_all (0xd55c ∷ 0xad6d ∷ 0xc5b4 ∷ []) ≡ 0xed ∷ 0x95 ∷ 0x9c ∷ 0xea ∷ 0xb5 ∷ 0xad ∷ 0xec ∷ 0x96 ∷ 0xb4 ∷ []
unfolding encode_all encode
korean = refl

-- "U+65E5 U+672C U+8A9E": E6 97 A5 E6 9C AC E8 AA 9E
japanese : encode_all (0x65e5 ∷ 0x672c ∷ 0x8a9e ∷ []) ≡ 0xe6 ∷ 0x97 ∷ 0xa5 ∷ 0xe6 ∷ 0x9c ∷ 0xac ∷ 0xe8 ∷ 0xaa ∷ 0x9e ∷ []
unfolding encode_all encode
japanese = refl

-- "U+233B4 prepended with a UTF-8 BOM": EF BB BF F0 A3 8E B4
stump : encode_all (0xfeff ∷ 0x233b4 ∷ []) ≡ 0xef ∷ 0xbb ∷ 0xbf ∷ 0xf0 ∷ 0xa3 ∷ 0x8e ∷ 0xb4 ∷ []
unfolding encode_all encode
stump = refl

-- the bytes of "U+233B4 prepended with a UTF-8 BOM" pass the test
stump_valid : valid_of (0xef ∷ 0xbb ∷ 0xbf ∷ 0xf0 ∷ 0xa3 ∷ 0x8e ∷ 0xb4 ∷ []) ≡ true
unfolding valid_from lead_of
stump_valid = refl

-- the bytes of "U+233B4 prepended with a UTF-8 BOM", cut short by one, do not pass the test
cut_short : valid_of (0xef ∷ 0xbb ∷ 0xbf ∷ 0xf0 ∷ 0xa3 ∷ 0x8e ∷ []) ≡ false
unfolding valid_from lead_of
cut_short = refl

-- "the invalid octet sequence C0 80 into the character U+0000": no sequence
overlong : lead_of (0xc0 ∷ 0x80 ∷ []) ≡ invalid
unfolding lead_of
overlong = refl

-- a surrogate's bytes, "ED A1 8C ED BE B4": no sequence
surrogate : lead_of (0xed ∷ 0xa1 ∷ 0x8c ∷ 0xed ∷ 0xbe ∷ 0xb4 ∷ []) ≡ invalid
unfolding lead_of
surrogate = refl

-- the first bytes above 10FFFF: no sequence
above : lead_of (0xf4 ∷ 0x90 ∷ 0x80 ∷ 0x80 ∷ []) ≡ invalid
unfolding lead_of
above = refl

-- the last character, 10FFFF, is read
greatest : lead_of (0xf4 ∷ 0x8f ∷ 0xbf ∷ 0xbf ∷ []) ≡ valid 0x10ffff 4
unfolding lead_of
greatest = refl

-- "2F C0 AE 2E 2F" does not pass for "2F 2E 2E 2F"
parent : valid_of (0x2f ∷ 0xc0 ∷ 0xae ∷ 0x2e ∷ 0x2f ∷ []) ≡ false
unfolding valid_from lead_of
parent = refl
