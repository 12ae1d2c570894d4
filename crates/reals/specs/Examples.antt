-- Examples of reals, of document 01 and of #101, and some of the points that they leave to the Rust. Assumes nothing.
use Rattle.std.specs.Prelude.{◌+◌, ◌^◌, ◌≡◌, refl, pos, neg_ℤ}
use Rattle.std.specs.Float.Ieee.{size}
use Rattle.common.specs.Walk.{walk}
use Rattle.common.specs.Bytes.{bytes}
use Rattle.record.specs.Text.{number_from}
use Rattle.nearest.specs.Near.{near, near_units}
use Rattle.reals.specs.Scalar.{parse_of, real_of, any_real_of, whole_of, reference_of}
use Rattle.reals.specs.Answer.{read, refused}
use Rattle.reals.specs.OldClass.{real_before}

-- #101: "example 9 becomes `1E27` in and `1E28` out, nineteen digits in and twenty out": `1E27` is read
in_reach : real_of (bytes "1E27") ≡ read 0x4589_d971_e4fe_8402
unfolding real_of parse_of number_from walk near near_units size
in_reach = refl

-- #101: "`1E28` out": it is 13
out_of_reach : real_of (bytes "1E28") ≡ refused 13
unfolding real_of parse_of number_from walk
out_of_reach = refl

-- #101: "nineteen digits in", the zeros before them not counted
nineteen : real_of (bytes "0.001234567890123456789E2") ≡ read 0x3fbf_9add_3746_f65f
unfolding real_of parse_of number_from walk near near_units size
nineteen = refl

-- #101: "and twenty out": twenty digits are 13
twenty : real_of (bytes "12345678901234567890.") ≡ refused 13
unfolding real_of parse_of number_from walk
twenty = refl

-- zeros after other digits are counted: 10^19 has twenty digits, and is 13
zeros_counted : real_of (bytes "10000000000000000000.") ≡ refused 13
unfolding real_of parse_of number_from walk
zeros_counted = refl

-- the largest m of the class at its farthest power of ten
largest_up : real_of (bytes "9999999999999999999E27") ≡ read 0x497c_06a5_ec54_33c6
unfolding real_of parse_of number_from walk near near_units size
largest_up = refl

-- the largest m of the class, negative, at its farthest power of ten down
largest_down : real_of (bytes "-9999999999999999999E-27") ≡ read (2 ^ 63 + 0x3e45_798e_e230_8c3a)
unfolding real_of parse_of number_from walk near near_units size
largest_down = refl

-- #101: "Loads of two exporters stop with 13 on `0.017453292519943295`, which has 17 digits": the degree
degree : real_of (bytes "0.017453292519943295") ≡ read 0x3f91_df46_a252_9d39
unfolding real_of parse_of number_from walk near near_units size
degree = refl

-- what example 9 said of the old class: "`1E22` in"
before_reach : real_before (bytes "1E22") ≡ read 0x4480_f0cf_064d_d592
unfolding parse_of number_from walk near near_units size
before_reach = refl

-- what example 9 said of the old class: "15 digits in"
fifteen : real_before (bytes "0.00123456789012345E2") ≡ read 0x3fbf_9add_3746_f62e
unfolding parse_of number_from walk near near_units size
fifteen = refl

-- "`1E23` is 13" was said of the old class
before_out : real_before (bytes "1E23") ≡ refused 13
unfolding parse_of number_from walk
before_out = refl

-- `1E23` is read now: 10^23 lies just half way between two f64s, and goes to the even one
far_now : real_of (bytes "1E23") ≡ read 0x44b5_2d02_c7e1_4af6
unfolding real_of parse_of number_from walk near near_units size
far_now = refl

-- a tie of seventeen digits, by division: 4503599627370496.5 goes down to the even one
half_down : real_of (bytes "45035996273704965E-1") ≡ read 0x4330_0000_0000_0000
unfolding real_of parse_of number_from walk near near_units size
half_down = refl

-- "16 is 13" was said of the old class
sixteen_before : real_before (bytes "1234567890123456.") ≡ refused 13
unfolding parse_of number_from walk
sixteen_before = refl

-- a real of sixteen digits, 13 by the old class, is read now
sixteen : real_of (bytes "1234567890123456.") ≡ read 0x4311_8b54_f22a_eb00
unfolding real_of parse_of number_from walk near near_units size
sixteen = refl

-- zero obeys the class: `0E27` is read
zero_in : real_of (bytes "0E27") ≡ read 0
unfolding real_of parse_of number_from walk near near_units size
zero_in = refl

-- zero obeys the class: `0E28` is 13
zero_out : real_of (bytes "0E28") ≡ refused 13
unfolding real_of parse_of number_from walk
zero_out = refl

-- zero obeys the class: `0.` with 28 zeros is 13
zeros_out : real_of (bytes "0.0000000000000000000000000000") ≡ refused 13
unfolding real_of parse_of number_from walk
zeros_out = refl

-- -0 keeps its sign
minus_zero : real_of (bytes "-0.") ≡ read (2 ^ 63)
unfolding real_of parse_of number_from walk near near_units size
minus_zero = refl

-- an exponent may have twenty digits
long_exponent : real_of (bytes "+1e-00000000000000000003") ≡ read 0x3f50_624d_d2f1_a9fc
unfolding real_of parse_of number_from walk near near_units size
long_exponent = refl

-- an exponent without digits is 12
no_exponent : real_of (bytes "1E") ≡ refused 12
unfolding real_of parse_of number_from walk
no_exponent = refl

-- "`inf` and `nan` included, is 12"
no_number : real_of (bytes "nan") ≡ refused 12
unfolding real_of parse_of number_from walk
no_number = refl

-- a sign and a point without digits are 12
no_digit : real_of (bytes "-.E1") ≡ refused 12
unfolding real_of parse_of number_from walk
no_digit = refl

-- ---- any real
-- a zero with noise, as files have it, of thirteen digits and e -29: it is read as any real
noise : any_real_of (bytes "-1.025893950136E-17") ≡ read 0xbc67_a7cf_1b0a_b831
unfolding any_real_of parse_of number_from walk near near_units size
noise = refl

-- a zero with noise, whose e is -29, is 13 by the class
noise_outside : real_of (bytes "-1.025893950136E-17") ≡ refused 13
unfolding real_of parse_of number_from walk
noise_outside = refl

-- a real of more than nineteen digits is read as any real
many_digits : any_real_of (bytes "3.14159265358979323846264338327950288") ≡ read 0x4009_21fb_5444_2d18
unfolding any_real_of parse_of number_from walk near near_units size
many_digits = refl

-- the least subnormal is about 4.94E-324: less than half of it is a zero, with its sign
half_least : any_real_of (bytes "-2.47E-324") ≡ read 0x8000_0000_0000_0000
unfolding any_real_of parse_of number_from walk near near_units size
half_least = refl

-- just half of the least subnormal, 5 ^ 1075 divided by 10 ^ 1075, is a zero: the even one of the two
just_half : any_real_of (bytes "24703282292062327208828439643411068618252990130716238221279284125033775363510437593264991818081799618989828234772285886546332835517796989819938739800539093906315035659515570226392290858392449105184435931802849936536152500319370457678249219365623669863658480757001585769269903706311928279558551332927834338409351978015531246597263579574622766465272827220056374006485499977096599470454020828166226237857393450736339007967761930577506740176324673600968951340535537458516661134223766678604162159680461914467291840300530057530849048765391711386591646239524912623653881879636239373280423891018672348497668235089863388587925628302755995657524455507255189313690836254779186948667994968324049705821028513185451396213837722826145437693412532098591327667236328125E-1075") ≡ read 0
unfolding any_real_of parse_of number_from walk near near_units size
just_half = refl

-- a little more than half of the least subnormal is read as the least subnormal
least : any_real_of (bytes "2.48E-324") ≡ read 1
unfolding any_real_of parse_of number_from walk near near_units size
least = refl

-- the largest finite f64 is read from its seventeen digits
greatest : any_real_of (bytes "1.7976931348623157E308") ≡ read 0x7fef_ffff_ffff_ffff
unfolding any_real_of parse_of number_from walk near near_units size
greatest = refl

-- what is past halfway from the largest finite f64 to 2 ^ 1024 is an infinity, with its sign
past_greatest : any_real_of (bytes "-1.7976931348623159E308") ≡ read 0xfff0_0000_0000_0000
unfolding any_real_of parse_of number_from walk near near_units size
past_greatest = refl

-- what is no real, as `inf`, is 12 where any real is read
no_real : any_real_of (bytes "inf") ≡ refused 12
unfolding any_real_of parse_of number_from walk
no_real = refl

-- the smallest signed 64-bit number is read as an integer
smallest : whole_of (bytes "-9223372036854775808") ≡ read (neg_ℤ (pos (2 ^ 63)))
unfolding whole_of number_from walk
smallest = refl

-- 2 ^ 63 is no signed 64-bit number
too_large : whole_of (bytes "9223372036854775808") ≡ refused 12
unfolding whole_of number_from walk
too_large = refl

-- the largest reference is 4294967295
largest_id : reference_of (bytes "#4294967295") ≡ read 4294967295
unfolding reference_of number_from walk
largest_id = refl

-- 4294967296 is no reference
no_id : reference_of (bytes "#4294967296") ≡ refused 12
unfolding reference_of number_from walk
no_id = refl
