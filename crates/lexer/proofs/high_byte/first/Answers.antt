-- `first`: behind a low front.
use Rattle.std.proofs.Common.{rules, ◌≡◌, ◌+◌, ◌-◌, length, take, drop}
use Rattle.std.specs.Prelude.{option_map, position}
use Rattle.std.proofs.iter.runs.Made.{chains}
use Rattle.std.proofs.lemmas.Iterator.{YieldsList-from_slice}
use Rattle.std.proofs.lemmas.Iterator.Search.{position_from_yields_List}
use Rattle.lexer.proofs.Search.{tail}
use Rattle.lexer.proofs.HighBytes.{high, high_found}
use Rattle.lexer.proofs.high_byte.first.Goals as goal

pub returns : goal.returns
returns c =
    let s = c.args.bytes.now in
    let low = c.low_front-low in
    let n = low.result in
    let r = c.position.result in
    let p : r ≡ position high (take (length s - n) (drop n s)) =
    position_from_yields_List high _ _ r c.position.ensures.ran
    (YieldsList-from_slice _ c.iter.ensures.rest) (λ x b q k. search rules) in
    let e : c.map.result ≡ option_map (λ k. n + k) r = search (rules, chains) in
    rw (e, p, tail s n, low.ensures.low) (high_found n (drop n s))
