use Rattle.std.proofs.Common.{◌≡◌, ◌≤◌, ◌+◌, ◌++◌, length, rules, arith, inr, ap, ◌∙◌, take, length-append, length-take, length-drop, drop}
use Rattle.mkcheck_host.proofs.ReaderLemmas.{grown_text, taken_more}
use Rattle.std.proofs.KnownBytes.{Consumes-kept}
use Rattle.mkcheck_host.proofs.reading.slurp.Goals as goal

pub returns-in-Ok-eq0-clause-taken : goal.returns-in-Ok-eq0-clause-taken
returns-in-Ok-eq0-clause-taken g c =
    taken_more _ _ _ c.loop-window.text.items c.read.new.buf c.in-Ok-eq0.field-0 16777217 c.loop-window.invariant.2 c.in-Ok-eq0.ensures.bytes.0 (omega (arith, c.loop-window.text.ok.0))

pub returns-in_err-extend_from_slice-in-Ok-clause-taken : goal.returns-in_err-extend_from_slice-in-Ok-clause-taken
returns-in_err-extend_from_slice-in-Ok-clause-taken g c =
    taken_more _ _ _ c.loop-window.text.items c.read.new.buf c.in-Ok.n 16777217 c.loop-window.invariant.2 c.in-Ok.ensures.bytes.0
    (omega (arith, c.loop-window.text.ok.0, c.in-Ok.ensures.bound.0, c.read.auto.buf, length-take c.min-room.result c.loop-window.window))

pub returns-then-ne-clause-taken : goal.returns-then-ne-clause-taken
returns-then-ne-clause-taken g c = (
  c.loop-window.text.items,
  omega (arith, c.loop-window.text.ok.0, c.loop-window.invariant.0),
  Consumes-kept _ _ _ c.loop-window.text.items c.loop-window.invariant.2 c.in-Err.ensures.bytes,
)

pub returns-then-len-gt-MAX_FILE-clause-failed : goal.returns-then-len-gt-MAX_FILE-clause-failed
returns-then-len-gt-MAX_FILE-clause-failed g c _ =
    let given = take c.in-Ok.n (c.read.new.buf ++ drop c.min-room.result c.loop-window.window) in
    let fits : c.loop-window.text.len + c.in-Ok.n ≤ 16777217 = omega (arith, c.in-Ok.ensures.bound.0, c.read.auto.buf, length-take c.min-room.result c.loop-window.window) in
    let grown : length c.extend_from_slice.new.self.items ≡ length c.loop-window.text.items + length given = ap length c.in_ok-extend_from_slice-in-Ok.ensures.items ∙ length-append c.loop-window.text.items given in
    let most : length given ≤ c.in-Ok.n = omega (arith, length-take c.in-Ok.n (c.read.new.buf ++ drop c.min-room.result c.loop-window.window)) in
    inr (inr (
      c.extend_from_slice.new.self.items,
      omega (arith, grown, most, fits, c.loop-window.text.ok.0, c.extend_from_slice.new.self.ok.0, c.if-len-gt-MAX_FILE.true, c.len-in-Ok.ensures),
      grown_text _ _ _ c.loop-window.text.items c.read.new.buf (drop c.min-room.result c.loop-window.window) c.extend_from_slice.new.self.items c.in-Ok.n c.loop-window.invariant.2 c.in-Ok.ensures.bytes.0 c.in-Ok.ensures.bound.0 c.in_ok-extend_from_slice-in-Ok.ensures.items,
    ))

pub loop-window-preserved : goal.loop-window-preserved
loop-window-preserved g c =
    let window : length (c.read.new.buf ++ drop c.min-room.result c.loop-window.window) ≡ 65536 =
    omega (arith, length-append c.read.new.buf (drop c.min-room.result c.loop-window.window), length-drop c.min-room.result c.loop-window.window, c.read.auto.buf, length-take c.min-room.result c.loop-window.window) in (
      c.loop-window.invariant.0,
      window,
      Consumes-kept _ _ _ c.loop-window.text.items c.loop-window.invariant.2 c.in-Err.ensures.bytes,
      search rules,
    )

pub loop-window-preserved-else-len-gt-MAX_FILE : goal.loop-window-preserved-else-len-gt-MAX_FILE
loop-window-preserved-else-len-gt-MAX_FILE g c =
    let window : length (c.read.new.buf ++ drop c.min-room.result c.loop-window.window) ≡ 65536 =
    omega (arith, length-append c.read.new.buf (drop c.min-room.result c.loop-window.window), length-drop c.min-room.result c.loop-window.window, c.read.auto.buf, length-take c.min-room.result c.loop-window.window) in (
      search rules,
      window,
      grown_text _ _ _ c.loop-window.text.items c.read.new.buf (drop c.min-room.result c.loop-window.window) c.extend_from_slice.new.self.items c.in-Ok.n c.loop-window.invariant.2 c.in-Ok.ensures.bytes.0 c.in-Ok.ensures.bound.0 c.in_ok-extend_from_slice-in-Ok.ensures.items,
      search rules,
    )
