use Rattle.std.proofs.Common.{◌≡◌, ℕ, ◌+◌, ◌*◌, ◌%◌, ◌<◌, ◌≤◌, ◌++◌, length, take, drop, slice_set, refl, subst, ◌∙◌, arith, inl, inr}
use Rattle.std.proofs.lemmas.Bool.{cases_lt}
use Rattle.std.proofs.lemmas.List.{length-set, take_all}
use Rattle.hex.specs.Hex.{encode_lower}
use Rattle.bench_base.specs.Table.{IsBytes}
use Rattle.script_words.proofs.HexDigits.{AreLower-at, read_step, bytes_step, read_done, no_lower, no_twice, read_none, below}
use Rattle.script_words.proofs.digits.read_hex.Goals as goal
use Rattle.script_words.proofs.digits.read_hex.Goals.{then-word-ne0-via-then-word-ne0, then-word-ne0-via-else-word-ne0+then-word-room}

pub returns-then-word-ne0 : goal.returns-then-word-ne0
returns-then-word-ne0 c = record {
  read = λ bytes long fits. no_twice c.args.word.now (length c.args.room.now)
      (λ twice. elim c.then-word-ne0.branch [
        | then-word-ne0-via-then-word-ne0 w ↦ w.if-word-ne0.true (omega (arith, twice))
        | then-word-ne0-via-else-word-ne0+then-word-room w ↦ w.if-word-room.true (omega (arith, twice))
      ])
      bytes long;
}

pub loop-at-init : goal.loop-at-init
loop-at-init c = (λ low. (read_none c.args.word.now, λ i. omega arith), λ high. absurd (omega (arith, high)), refl)

pub loop-at-preserved : goal.loop-at-preserved
loop-at-preserved c =
    let at = c.loop-at.at in
    let word = c.args.word.now in
    let room = c.loop-at.room in
    let high = c.value_of-high.result in
    let low = c.value_of-low.result in
    let greatest = c.max-greatest.result in
    let first = c.max.ensures in
    let then = c.max-greatest.ensures in
    let long : length room ≡ length c.args.room.now = c.loop-at.invariant.2 in
    let fits : 2 * at + 1 < length word = omega (arith, c.if-word-ne0.false, c.if-word-room.false, c.loop-at-test.true, long) in
    let inside : at < length room = omega (arith, c.loop-at-test.true, long) in (
      λ all.
          let a : high < 16 = omega (arith, all, first, then) in
          let b : low < 16 = omega (arith, all, first, then) in
          let before = c.loop-at.invariant.0 (omega (arith, all, first, then)) in
          let value : high * 16 + low ≡ (high * 16 % 256 + low) % 256 = omega (arith, a, b) in (
            subst (λ (v : ℕ). encode_lower (take (at + 1) (slice_set room at v)) ++ drop (2 * (at + 1)) word ≡ word) value
                (read_step word room at high low fits inside b (c.value_of-high.ensures.digit a) (c.value_of-low.ensures.digit b) before.0),
            subst (λ (v : ℕ). IsBytes (take (at + 1) (slice_set room at v))) value (bytes_step room at (high * 16 + low) inside (omega (arith, a, b)) before.1),
          ),
      λ other lower. elim (cases_lt c.loop-at.greatest 16) [
        | inr was ↦ c.loop-at.invariant.1 was lower
        | inl small ↦ elim (cases_lt high 16) [
          | inr isnt ↦ c.value_of-high.ensures.other isnt (AreLower-at word lower (2 * at) (omega (arith, fits)))
          | inl a ↦ c.value_of-low.ensures.other (omega (arith, other, first, then, small, a)) (AreLower-at word lower (2 * at + 1) fits)
        ]
      ],
      length-set room at _ ∙ long,
    )

pub returns : goal.returns
returns c =
    let word = c.args.word.now in
    let long : length c.loop-at.room ≡ length c.args.room.now = c.loop-at.invariant.2 in
    record {
      read = below c.loop-at.greatest _ _
          (λ all.
          let before = c.loop-at.invariant.0 all in
          let end : length c.loop-at.room ≤ c.loop-at.at = omega (arith, c.loop-at-test.false, long) in
          let whole = read_done word c.loop-at.room c.loop-at.at end (omega (arith, end, long, c.if-word-ne0.false, c.if-word-room.false)) before.0 in
          (whole, subst IsBytes (take_all c.loop-at.at c.loop-at.room end) before.1, long))
          (λ other bytes same fits. no_lower word (c.loop-at.invariant.1 other) bytes fits);
    }
