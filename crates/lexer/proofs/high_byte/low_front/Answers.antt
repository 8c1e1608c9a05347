-- `low_front`: groups without such a byte are passed.
use Rattle.std.proofs.Common.{rules, arith, ◌≡◌, ◌/◌, length}
use Rattle.std.specs.Prelude.{position}
use Rattle.std.specs.List.{list_any}
use Rattle.std.specs.Simd.{first_chunks}
use Rattle.std.proofs.lemmas.Iterator.{YieldsList-from_slice}
use Rattle.std.proofs.lemmas.Iterator.Search.{position_from_yields_List}
use Rattle.lexer.proofs.Search.{before_first}
use Rattle.lexer.proofs.HighBytes.{high, low_groups, past_groups, unwrapped}
use Rattle.lexer.proofs.high_byte.low_front.Goals as goal

pub overflow_mul-result : goal.overflow_mul-result
overflow_mul-result c =
    let gs = c.as_chunks.result.0.now in
    omega (arith, unwrapped c.position.result (length gs) (rw c.iter.ensures.rest at c.position.ensures.bound), c.unwrap_or-low.ensures, c.as_chunks.ensures.front_len)

pub returns : goal.returns
returns c =
    let s = c.args.bytes.now in
    let gs = c.as_chunks.result.0.now in
    let e : c.position.result ≡ position (list_any high) gs =
    position_from_yields_List (list_any high) _ _ c.position.result c.position.ensures.ran
    (YieldsList-from_slice gs c.iter.ensures.rest) (λ x b q k. search rules) in
    let f : gs ≡ first_chunks 8 (length s / 8) s = c.as_chunks.ensures.front in
    let n : c.unwrap_or-low.result ≡ low_groups (length s / 8) s =
    rw (c.unwrap_or-low.ensures, e, f) (before_first (list_any high) (first_chunks 8 (length s / 8) s)) in
    record {
      inside = omega (arith, unwrapped c.position.result (length gs) (rw c.iter.ensures.rest at c.position.ensures.bound), c.unwrap_or-low.ensures, c.as_chunks.ensures.front_len);
      low = rw n (past_groups (length s / 8) s (omega arith));
    }
