use Rattle.std.proofs.Common.{◌≡◌, ◌+◌, ◌*◌, ◌%◌, ◌<◌, ◌^◌, length, get_or, take, sym, ap, ◌∙◌, arith, rules, take_all, Some}
use Rattle.serde_json.specs.Data.{unsigned}
use Rattle.std.specs.Str.Parse.{AllDigits, digits_value}
use Rattle.nm_steps.proofs.Shorts.{stays_small, one_more_digit, one_more_value, short_number, no_numeral}
use Rattle.nm_steps.proofs.tree.short_of.Goals as goal

pub overflow_mul-number : goal.overflow_mul-number
overflow_mul-number c =
    let l = c.loop-byte in
    let byte = get_or c.args.bytes.now l.byte-index 0 in
    let small : l.number * 10 + (byte + 208) % 256 < 2 ^ 64 = stays_small c.args.bytes.now l.byte-index l.number c.loop-byte-test.true c.if-bytes-gt-SHORT_DIGITS.false (omega (arith, c.type_inv.bytes l.byte-index)) c.if-digit-gt9.false l.invariant.digits l.invariant.value in
    omega (arith, small)

pub overflow_add-number : goal.overflow_add-number
overflow_add-number c =
    let l = c.loop-byte in
    let byte = get_or c.args.bytes.now l.byte-index 0 in
    let small : l.number * 10 + (byte + 208) % 256 < 2 ^ 64 = stays_small c.args.bytes.now l.byte-index l.number c.loop-byte-test.true c.if-bytes-gt-SHORT_DIGITS.false (omega (arith, c.type_inv.bytes l.byte-index)) c.if-digit-gt9.false l.invariant.digits l.invariant.value in
    omega (arith, small, c.from.ensures)

pub loop-byte-preserved : goal.loop-byte-preserved
loop-byte-preserved c =
    let l = c.loop-byte in
    let byte : get_or c.args.bytes.now l.byte-index 0 < 256 = omega (arith, c.type_inv.bytes l.byte-index) in record {
      digits = one_more_digit c.args.bytes.now l.byte-index l.number c.loop-byte-test.true c.if-bytes-gt-SHORT_DIGITS.false byte c.if-digit-gt9.false l.invariant.digits l.invariant.value;
      value = ap (λ d. l.number * 10 + d) c.from.ensures ∙ one_more_value c.args.bytes.now l.byte-index l.number c.loop-byte-test.true c.if-bytes-gt-SHORT_DIGITS.false byte c.if-digit-gt9.false l.invariant.digits l.invariant.value;
    }

pub returns-then-digit-gt9-clause-other : goal.returns-then-digit-gt9-clause-other
returns-then-digit-gt9-clause-other c = λ numeral.
    let l = c.loop-byte in
    absurd (no_numeral c.args.bytes.now l.byte-index c.loop-byte-test.true (omega (arith, c.type_inv.bytes l.byte-index)) (omega (arith, c.if-digit-gt9.true)) numeral)

pub returns-clause-value : goal.returns-clause-value
returns-clause-value c =
    let l = c.loop-byte in
    let all : take l.byte-index c.args.bytes.now ≡ c.args.bytes.now = take_all l.byte-index c.args.bytes.now c.loop-byte-test.false in
    let digits : AllDigits 10 c.args.bytes.now = rw all at l.invariant.digits in
    let some : 0 < length c.args.bytes.now = search rules in
    short_number c.args.bytes.now digits some c.if-bytes-gt-SHORT_DIGITS.false ∙ ap (λ n. Some (unsigned n)) (sym (l.invariant.value ∙ ap (digits_value 10) all))
