-- Chains, link by link: what a proof of code that completes and precedes in a loop cites. One link of the code is one
-- link of the machine.
use Prim.Native.Nat.{ℕ, zero, suc, ◌≤◌, ◌<◌}
use mathlib.Core.Path.{◌≡◌, refl, sym, ap, ◌∙◌}
use mathlib.Core.Bool.{Bool, true, false, cond, ◌&&◌}
use mathlib.Core.List.{List}
use native.Mathlib.Omega.{arith}
use lib.Dec.{ltb, eqb}
use borrow.Author.Tests.{ltb-true, lt-ltb}
use Rattle.definitions.specs.Layout.{PLACEHOLDER, START_NODE, FINISH_NODE, LINKED_START_NODE}
use Rattle.definitions.specs.Token.{Token}
use Rattle.definitions.specs.Skeleton.{Span}
use Rattle.definitions.specs.Prog.{Ans, again, Rule, Prog, chain}
use Rattle.definitions.specs.Run.{is_again, by_shape}
use Rattle.machine.specs.Machine.{Machine, Marker, with_events, put_start, push, complete, precede}
use Rattle.machine.specs.Walk.{Walked, said, next_marker, goes_on, link, links, chained, walk}
use Rattle.basics.proofs.Tests.{cond-all}
use Rattle.machine.proofs.Turns.{ahead, Few, row_ahead, push_ahead}

-- ---------------------------------------------------------------- a link moves no cursor back

pub complete_ahead : (ts : List Token) (k : Marker) (kind : ℕ) (m : Machine) → Few ts → ahead ts (complete k kind m) ≤ ahead ts m
unfolding complete
complete_ahead ts k kind m h = cond-all (λ (x : Machine). ahead ts x ≤ ahead ts m) (eqb m.refusal 0)
    (row_ahead ts FINISH_NODE 0 (with_events (record { count = m.events.count; numbers = put_start k kind m.events.numbers }) m) h) (omega arith)

pub precede_ahead : (ts : List Token) (k : Marker) (m : Machine) → Few ts → ahead ts (precede k m) ≤ ahead ts m
unfolding precede
precede_ahead ts k m h =
    cond-all (λ (x : Machine). ahead ts x ≤ ahead ts m) (eqb (push PLACEHOLDER 0 m).refusal 0) (push_ahead ts PLACEHOLDER 0 m h) (push_ahead ts PLACEHOLDER 0 m h)

pub link_ahead : (ts : List Token) (k : Marker) (kind : ℕ) (m : Machine) → Few ts → ahead ts (link k kind m) ≤ ahead ts m
unfolding link
link_ahead ts k kind m h = omega (arith, complete_ahead ts k kind m h, precede_ahead ts k (complete k kind m) h)

-- ---------------------------------------------------------------- fuel

pub links_fuel : (ts : List Token) → Few ts → (n j : ℕ) (f : Machine → Walked) (k : Marker) (m : Machine) → ahead ts m < n → ahead ts m < j → links ts n f k m ≡ links ts j f k m
unfolding links goes_on
links_fuel ts w zero j f k m h g = absurd (omega (arith, h))
links_fuel ts w (suc n) zero f k m h g = absurd (omega (arith, g))
links_fuel ts w (suc n) (suc j) f k m h g =
    ap (by_shape (f m).shape (said (f m).ans (push PLACEHOLDER 0 (f m).on)))
    (go (is_again (f m).ans) (ltb (ahead ts (f m).on) (ahead ts m)) refl
    (λ l. let q = link_ahead ts k (f m).shape (f m).on w in
    links_fuel ts w n j f (next_marker LINKED_START_NODE (complete k (f m).shape (f m).on)) (link k (f m).shape (f m).on) (omega (arith, h, l, q)) (omega (arith, g, l, q))))
  where
    x : Machine
    x = link k (f m).shape (f m).on

    next : Marker
    next = next_marker LINKED_START_NODE (complete k (f m).shape (f m).on)

    last : Walked
    last = said (f m).ans (push PLACEHOLDER 0 x)

    go : (a b : Bool) → ltb (ahead ts (f m).on) (ahead ts m) ≡ b → (ahead ts (f m).on < ahead ts m → links ts n f next x ≡ links ts j f next x)
        → cond (a && b) (links ts n f next x) last ≡ cond (a && b) (links ts j f next x) last
    go true true e r = r (ltb-true _ _ e)
    go true false e r = refl
    go false true e r = refl
    go false false e r = refl

-- ---------------------------------------------------------------- link by link

-- the rest of a chain, from an open marker on
unfoldable pub linked : (Rule → Machine → Walked) → List Token → Span → Prog → Marker → Machine → Walked
linked ask ts b q k m = links ts (suc (ahead ts m)) (walk ask ts b q) k m

-- a turn from m that came to w, and the n turns after it
abbrev turned : List Token → ℕ → (Machine → Walked) → Marker → Machine → Walked → Walked
turned ts n f k m w =
    by_shape w.shape (said w.ans (push PLACEHOLDER 0 w.on))
    (cond (goes_on ts m w) (links ts n f (next_marker LINKED_START_NODE (complete k w.shape w.on)) (link k w.shape w.on)) (said w.ans (push PLACEHOLDER 0 (link k w.shape w.on))))

module _ (ask : Rule → Machine → Walked) (ts : List Token) (b : Span) (q : Prog) (k : Marker) (m m' : Machine) where
  came : (w : Walked) → w ≡ walk ask ts b q m → turned ts (ahead ts m) (walk ask ts b q) k m w ≡ linked ask ts b q k m
  unfolding linked links
  came w e = ap (turned ts (ahead ts m) (walk ask ts b q) k m) e

  -- a turn that answers again with a kind and moved the cursor: the chain from here is the chain from there
  pub link_again : (kind : ℕ) → Few ts → record { ans = again; shape = suc kind; on = m' } ≡ walk ask ts b q m → ahead ts m' < ahead ts m
      → linked ask ts b q (next_marker LINKED_START_NODE (complete k (suc kind) m')) (link k (suc kind) m') ≡ linked ask ts b q k m
  unfolding linked goes_on is_again by_shape
  link_again kind w e h =
      let l = link_ahead ts k (suc kind) m' w in
      let next = next_marker LINKED_START_NODE (complete k (suc kind) m') in
      let x = link k (suc kind) m' in
      links_fuel ts w (suc (ahead ts x)) (ahead ts m) (walk ask ts b q) next x (omega arith) (omega (arith, l, h))
      ∙ sym (ap (λ (g : Bool). cond g (links ts (ahead ts m) (walk ask ts b q) next x) (said again (push PLACEHOLDER 0 x))) (lt-ltb _ _ h))
      ∙ came (record { ans = again; shape = suc kind; on = m' }) e

  -- a turn with a kind that answers anything else: one more link, and the chain ends
  pub link_last : (kind : ℕ) (a : Ans) → is_again a ≡ false → record { ans = a; shape = suc kind; on = m' } ≡ walk ask ts b q m → said a (push PLACEHOLDER 0 (link k (suc kind) m')) ≡ linked ask ts b q k m
  unfolding goes_on by_shape
  link_last kind a i e =
      let x = link k (suc kind) m' in
      sym (ap (λ (g : Bool). cond (g && ltb (ahead ts m') (ahead ts m)) (links ts (ahead ts m) (walk ask ts b q) (next_marker LINKED_START_NODE (complete k (suc kind) m')) x) (said a (push PLACEHOLDER 0 x))) i)
      ∙ came (record { ans = a; shape = suc kind; on = m' }) e

  -- a turn without a kind ends the chain
  pub link_stop : (a : Ans) → said a m' ≡ walk ask ts b q m → said a (push PLACEHOLDER 0 m') ≡ linked ask ts b q k m
  unfolding by_shape
  link_stop a e = came (said a m') e

module _ (ask : Rule → Machine → Walked) (ts : List Token) (b : Span) (p q : Prog) (m m' : Machine) where
  -- the first program answers again: the links follow
  pub chain_on : said again m' ≡ walk ask ts b p (push PLACEHOLDER 0 m) → linked ask ts b q (next_marker START_NODE m) m' ≡ walk ask ts b (chain p q) m
  unfolding walk chained linked is_again
  chain_on e = ap (chained ts (walk ask ts b q) (next_marker START_NODE m)) e

  -- it answers anything else: there are none
  pub chain_off : (a : Ans) → is_again a ≡ false → said a m' ≡ walk ask ts b p (push PLACEHOLDER 0 m) → said a (push PLACEHOLDER 0 m') ≡ walk ask ts b (chain p q) m
  unfolding walk chained
  chain_off a i e =
      sym (ap (λ (g : Bool). cond g (links ts (suc (ahead ts m')) (walk ask ts b q) (next_marker START_NODE m) m') (said a (push PLACEHOLDER 0 m'))) i)
      ∙ ap (chained ts (walk ask ts b q) (next_marker START_NODE m)) e
