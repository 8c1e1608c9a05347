-- A chain as the code makes it: a marker, a first program, and link by link a completed node that the next marker
-- precedes.
use Prim.Native.Nat.{ℕ, ◌<◌, ◌≤◌}
use mathlib.Core.Path.{◌≡◌, refl, sym, ap, ◌∙◌}
use mathlib.Core.Bool.{Bool, true, false}
use mathlib.Core.List.{List}
use native.Mathlib.Omega.{arith}
use lib.ListN.{length}
use Rattle.std.specs.Prelude.{Option, None, Some}
use Rattle.definitions.specs.Layout.{TWO_TO_64, PLACEHOLDER, START_NODE, LINKED_START_NODE}
use Rattle.definitions.specs.NodeKind as N
use Rattle.definitions.specs.Token.{Token}
use Rattle.definitions.specs.Prog.{no, yes, again, Prog, chain}
use Rattle.definitions.specs.Run.{is_again}
use Rattle.machine.specs.Machine.{push, complete, precede}
use Rattle.machine.specs.Machine as M
use Rattle.machine.specs.Walk.{Walked, said, next_marker, link, walk, walk_rule, unlabelled}
use Rattle.machine.proofs.Turns.{few_rows}
use Rattle.machine.proofs.Links.{linked, link_again, link_last, link_stop, chain_on, chain_off}
use Rattle.parser.specs.declared.Parser.{Parser}
use Rattle.parser.specs.declared.marker.Marker.{Marker}
use Rattle.parser.specs.View.{view, toks, tokens_left, marker_of, Same, Becomes, WalksWithin}
use Rattle.parser.proofs.Ways.{same_then, same_toks, falls}
use Rattle.expr.specs.Chain.{turn_ans, turn_shape, TurnsWithin, links_from, LinksWithin}

-- ---------------------------------------------------------------- where it begins

-- the first program with the tokens of p
first : (n : ℕ) (f : Prog) {p s : Parser} {w : Walked} → Becomes (push PLACEHOLDER 0) p s → w ≡ walk (walk_rule n (toks s)) (toks s) unlabelled f (view s)
    → w ≡ walk (walk_rule n (toks p)) (toks p) unlabelled f (push PLACEHOLDER 0 (view p))
first n f {p = p} {s = s} z w =
    w ∙ ap (λ (ts : List Token). walk (walk_rule n ts) ts unlabelled f (view s)) (same_toks z.same)
    ∙ ap (walk (walk_rule n (toks p)) (toks p) unlabelled f) z.is

-- it answers again: the links follow
pub chained : (n : ℕ) {f g : Prog} {p s q r : Parser} {m : Marker} → marker_of m ≡ next_marker START_NODE (view p) → Becomes (push PLACEHOLDER 0) p s
    → WalksWithin n f s again q → LinksWithin n g m q r → WalksWithin n (chain f g) p yes r
unfolding linked
chained n {f = f} {g = g} {p = p} {q = q} {m = m} i z w o =
    let same = same_then z.same w.same in
    record {
      is =
          o.is ∙ ap (λ (ts : List Token). links_from n ts g (marker_of m) (view q)) (same_toks same)
          ∙ ap (λ (k : M.Marker). links_from n (toks p) g k (view q)) i
          ∙ chain_on (walk_rule n (toks p)) (toks p) unlabelled f g (view p) (view q) (first n f z w.is);
      same = same_then same o.same;
      left = omega (arith, z.left, w.left, o.left);
    }

-- it answers no: there are none
pub unchained : (n : ℕ) {f g : Prog} {p s q r : Parser} → Becomes (push PLACEHOLDER 0) p s → WalksWithin n f s no q → Becomes (push PLACEHOLDER 0) q r → WalksWithin n (chain f g) p no r
unfolding is_again
unchained n {f = f} {g = g} {p = p} {q = q} z w y =
    record {
      is = ap (said no) y.is ∙ chain_off (walk_rule n (toks p)) (toks p) unlabelled f g (view p) (view q) no refl (first n f z w.is);
      same = same_then (same_then z.same w.same) y.same;
      left = omega (arith, z.left, w.left, y.left);
    }

-- ---------------------------------------------------------------- link by link

-- a turn whose answer is known
pub answered : (n : ℕ) {g : Prog} {p q : Parser} {x y : Option Bool} → x ≡ y → TurnsWithin n g p x q → TurnsWithin n g p y q
answered n {q = q} i w =
    record { is = ap (λ (z : Option Bool). record { ans = turn_ans z; shape = turn_shape z; on = view q }) (sym i) ∙ w.is; same = w.same; left = w.left }

-- the links from q and its marker are those from p and its own
pub record Linking (n : ℕ) (g : Prog) (p : Parser) (m : Marker) (q : Parser) (k : Marker) : Type 0 where
  pub is : links_from n (toks p) g (marker_of k) (view q) ≡ links_from n (toks p) g (marker_of m) (view p)
  pub same : Same p q
  pub left : tokens_left q ≤ tokens_left p

module _ {n : ℕ} {g : Prog} {p q r : Parser} {m k : Marker} (o : Linking n g p m q k) where
  -- a turn with the tokens of p
  turned : (x : Option Bool) → TurnsWithin n g q x r
      → record { ans = turn_ans x; shape = turn_shape x; on = view r } ≡ walk (walk_rule n (toks p)) (toks p) unlabelled g (view q)
  turned x w = w.is ∙ ap (λ (ts : List Token). walk (walk_rule n ts) ts unlabelled g (view q)) (same_toks o.same)

  -- no link: the last marker is ignored
  pub stops : {u : Parser} → TurnsWithin n g q None r → Becomes (push PLACEHOLDER 0) r u → LinksWithin n g m p u
  unfolding linked
  stops w v =
      record {
        is = ap (said yes) v.is ∙ link_stop (walk_rule n (toks p)) (toks p) unlabelled g (marker_of k) (view q) (view r) yes (turned None w) ∙ o.is;
        same = same_then o.same (same_then w.same v.same);
        left = omega (arith, o.left, w.left, v.left);
      }

  -- a turn from q to r, the node completed (s), and the next marker pushed and linked to (t)
  module _ {s t : Parser} {j : Marker} (z : Becomes (complete (marker_of k) N.InfixExpr) r s) (i : j ≡ k) (y : Becomes (precede (marker_of j)) s t) where
    link_is : view t ≡ link (marker_of k) N.InfixExpr (view r)
    unfolding link
    link_is = y.is ∙ ap (λ (x : Marker). precede (marker_of x) (view s)) i ∙ ap (precede (marker_of k)) z.is

    -- and on
    pub goes_on : {k' : Marker} → length p.tokens.now < TWO_TO_64 → TurnsWithin n g q (Some true) r → tokens_left r < tokens_left q
        → marker_of k' ≡ next_marker LINKED_START_NODE (view s) → Linking n g p m t k'
    unfolding linked
    goes_on h w l e =
        record {
          is =
              ap (λ (x : M.Marker). links_from n (toks p) g x (view t)) (e ∙ ap (next_marker LINKED_START_NODE) z.is)
              ∙ ap (links_from n (toks p) g (next_marker LINKED_START_NODE (complete (marker_of k) N.InfixExpr (view r)))) link_is
              ∙ link_again (walk_rule n (toks p)) (toks p) unlabelled g (marker_of k) (view q) (view r) 5 (few_rows p.tokens.now h) (turned (Some true) w) (falls o.same w.same l)
              ∙ o.is;
          same = same_then o.same (same_then w.same (same_then z.same y.same));
          left = omega (arith, o.left, w.left, z.left, y.left);
        }

    -- or the last
    pub lasts : {u : Parser} → TurnsWithin n g q (Some false) r → Becomes (push PLACEHOLDER 0) t u → LinksWithin n g m p u
    unfolding linked is_again
    lasts w v =
        record {
          is =
              ap (said yes) (v.is ∙ ap (push PLACEHOLDER 0) link_is)
              ∙ link_last (walk_rule n (toks p)) (toks p) unlabelled g (marker_of k) (view q) (view r) 5 yes refl (turned (Some false) w)
              ∙ o.is;
          same = same_then o.same (same_then w.same (same_then z.same (same_then y.same v.same)));
          left = omega (arith, o.left, w.left, z.left, y.left, v.left);
        }
