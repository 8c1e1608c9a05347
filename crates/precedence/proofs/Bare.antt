-- A cell's symbols are read as C's table says, and the table gives no symbols two trees.
use Prim.Native.Nat.{ℕ, zero, suc, ◌≤◌}
use native.Mathlib.Omega.{arith}
use mathlib.Core.Path.{◌≡◌, refl, sym, ◌∙◌, ap}
use mathlib.Core.List.{List, [], ◌∷◌, ◌++◌, append-nil}
use mathlib.Core.Option.{Option, none, some}
use lib.ListN.{length}
use Rattle.definitions.specs.TokenKind as K
use Rattle.definitions.specs.Token.{one_of}
use Rattle.definitions.specs.C.{Symbol, plain, Change, opens, closes, keeps, change, changed, open_after, Balanced, Expr, spelling, WellFormed, Gives}
use Rattle.precedence.proofs.Pratt.{operator, is, Res, done, report, refused, spent, expect, closed, args, reader, cell}
use Rattle.precedence.proofs.Base.{onto, onto_written, open_onto, Before, before_refl, Post, post_bind, post_expect}
use Rattle.precedence.proofs.Sound.{Read, reader_sound, beyond}
use Rattle.precedence.proofs.Complete.{Never, Is, post_then, reads_exactly, args_complete}
use Rattle.precedence.proofs.Enough.{Fin, cell_fin}

-- p is what is left of the symbols xs and those after them, the last one taken standing in xs
pub record Within (xs after p : List Symbol) : Type 0 where
  pub passed : List Symbol
  pub left : List Symbol
  pub symbols_are : xs ≡ passed ++ left
  pub here : p ≡ left ++ after

-- xs stands between the brackets, and us after the closing one: xs is read to its tree; or it has none and a report is
-- made before the bracket is taken; or a call is refused
abbrev pub Verdict : List Symbol → List Symbol → Res → Type 0
Verdict xs us (done e vs) = Gives xs e × (vs ≡ us)
Verdict xs us (report p) = ((e : Expr) → Gives xs e → ⊥) × Within xs (plain K.RParen ∷ us) p
Verdict xs us refused = Unit {0}
Verdict xs us spent = ⊥

record Cell (us : List Symbol) (e : Expr) (vs : List Symbol) : Type 0 where
  well_formed : WellFormed e
  symbols_are : us ≡ onto e (plain K.RParen ∷ vs)

cell_sound : (d : ℕ) (us : List Symbol) → Post (Cell us) (Before us) (cell d us)
cell_sound d us =
    post_bind (Read 0 us) (Before us) (Cell us) (Before us) (reader d 0 us) (λ e vs. expect K.RParen vs (λ ws. done e ws))
    (reader_sound d 0 (omega arith) us) (λ p b. b)
    λ e vs r.
    post_expect (Cell us) (Before us) K.RParen vs (λ ws. done e ws) (beyond e r.well_formed us vs vs r.symbols_are (before_refl vs))
    λ ws h. let y = r.symbols_are in record { well_formed = r.well_formed; symbols_are = cc }

cell_complete : (d : ℕ) (xs : List Symbol) (e : Expr) → Gives xs e → (us : List Symbol) → Post (Is e us) Never (cell d (xs ++ (plain K.RParen ∷ us)))
unfolding operator is one_of
cell_complete d xs e g us =
    let h : onto e (plain K.RParen ∷ us) ≡ xs ++ (plain K.RParen ∷ us) =
    onto_written e (plain K.RParen ∷ us) ∙ ap (λ (l : List Symbol). l ++ (plain K.RParen ∷ us)) g.symbols_are in
    rw (← h)
    (post_then (Is e us) e (plain K.RParen ∷ us) (reader d 0 (onto e (plain K.RParen ∷ us))) (λ e' vs. expect K.RParen vs (λ ws. done e' ws))
    (reads_exactly e g.well_formed d (plain K.RParen ∷ us) tt tt) (refl, refl))

-- ---------------------------------------------------------------- brackets

-- the bracket that balances is one
pub split_unique : (xs ys us vs : List Symbol) → Balanced xs → Balanced ys → xs ++ (plain K.RParen ∷ us) ≡ ys ++ (plain K.RParen ∷ vs)
    → (xs ≡ ys) × (us ≡ vs)
split_unique xs ys us vs p q h =
    let x = args_complete xs us 0 p in
    let y = args_complete ys vs 0 q in
    let z : args (xs ++ (plain K.RParen ∷ us)) 0 ≡ args (ys ++ (plain K.RParen ∷ vs)) 0 = ap (λ (l : List Symbol). args l 0) h in
    let w : closed xs us ≡ closed ys vs = sym x ∙ z ∙ y in
    (cc, cc)

balanced : (e : Expr) → WellFormed e → Balanced (spelling e)
balanced e a = ap (λ (l : List Symbol). open_after l 0) (sym (append-nil (spelling e)) ∙ sym (onto_written e [])) ∙ open_onto e a [] 0

-- where brackets balance, what closes none that was not opened stays inside
within_turn : (t : Change) (f g : ℕ → Option ℕ) (n : ℕ) (X : Type 0) → ((m : ℕ) → f m ≡ some 0 → (g m ≡ none → ⊥) → X)
    → changed t f n ≡ some 0 → (changed t g n ≡ none → ⊥) → X
within_turn opens f g n X ih h i = ih (suc n) h i
within_turn closes f g zero X ih h i = absurd (i refl)
within_turn closes f g (suc n) X ih h i = ih n h i
within_turn keeps f g n X ih h i = ih n h i

within_cons : (x : Symbol) (xs after p : List Symbol) → Within xs after p → Within (x ∷ xs) after p
within_cons x xs after p w = record { passed = x ∷ w.passed; left = w.left; symbols_are = rw w.symbols_are; here = w.here }

within : (xs c us p : List Symbol) (n : ℕ) → open_after xs n ≡ some 0 → (open_after c n ≡ none → ⊥)
    → xs ++ (plain K.RParen ∷ us) ≡ c ++ p → Within xs (plain K.RParen ∷ us) p
within xs [] us p n h i e = record { passed = []; left = xs; symbols_are = refl; here = sym e }
within [] (y ∷ c) us p zero h f e = let z : y ≡ plain K.RParen = cc in absurd (f (rw z refl))
within [] (y ∷ c) us p (suc n) h f e = let z : suc n ≡ 0 = cc in absurd (omega arith)
within (x ∷ xs) (y ∷ c) us p n h f e =
    let z : y ≡ x = cc in
    let w : xs ++ (plain K.RParen ∷ us) ≡ c ++ p = cc in
    within_cons x xs (plain K.RParen ∷ us) p
    (within_turn (change x) (open_after xs) (open_after c) n (Within xs (plain K.RParen ∷ us) p) (λ m a b. within xs c us p m a b w) h
    (λ a. f (rw z a)))

-- ---------------------------------------------------------------- the verdict

verdict_of : (xs us : List Symbol) → Balanced xs → (x : Res) → Post (Cell (xs ++ (plain K.RParen ∷ us))) (Before (xs ++ (plain K.RParen ∷ us))) x
    → ((e : Expr) → Gives xs e → Post (Is e us) Never x) → (R : Type 0) → Fin (length (xs ++ (plain K.RParen ∷ us))) R x → Verdict xs us x
verdict_of xs us b (done e vs) s c R f =
    let q = split_unique xs (spelling e) us vs b (balanced e s.well_formed) (s.symbols_are ∙ onto_written e (plain K.RParen ∷ vs)) in
    (record { well_formed = s.well_formed; symbols_are = sym q.0 }, sym q.1)
verdict_of xs us b (report p) s c R f = (c, within xs s.passed us p 0 b (s.inside 0) s.split)
verdict_of xs us b refused s c R f = tt
verdict_of xs us b spent s c R f = f

pub verdict : (d : ℕ) (xs us : List Symbol) → Balanced xs → Verdict xs us (cell d (xs ++ (plain K.RParen ∷ us)))
verdict d xs us b =
    let ts : List Symbol = xs ++ (plain K.RParen ∷ us) in
    verdict_of xs us b (cell d ts) (cell_sound d ts) (λ e g. cell_complete d xs e g us) (d ≤ length ts) (cell_fin d ts)

-- what is read without a report ends with the RParen that balances
abbrev pub Reads : List Symbol → Res → Type 0
Reads us (done e vs) = (xs : List Symbol) × Balanced xs × (us ≡ xs ++ (plain K.RParen ∷ vs))
Reads us (report p) = Unit {0}
Reads us refused = Unit {0}
Reads us spent = ⊥

reads_of : (us : List Symbol) (x : Res) → Post (Cell us) (Before us) x → (a : ℕ) (R : Type 0) → Fin a R x → Reads us x
reads_of us (done e vs) s a R f = (spelling e, balanced e s.well_formed, s.symbols_are ∙ onto_written e (plain K.RParen ∷ vs))
reads_of us (report p) s a R f = tt
reads_of us refused s a R f = tt
reads_of us spent s a R f = f

pub cell_reads : (d : ℕ) (us : List Symbol) → Reads us (cell d us)
cell_reads d us = reads_of us (cell d us) (cell_sound d us) (length us) (d ≤ length us) (cell_fin d us)

same_of : (e e' : Expr) (us : List Symbol) (R : Type 0) (x : Res) → Post (Is e us) Never x → Post (Is e' us) Never x → (a : ℕ) → Fin a R x → (R → ⊥) → e ≡ e'
same_of e e' us R (done f vs) p q a h r = sym p.0 ∙ q.0
same_of e e' us R (report vs) p q a h r = absurd p
same_of e e' us R refused p q a h r = absurd (r h)
same_of e e' us R spent p q a h r = absurd h

-- the tree that C's table gives is unique
pub unique : (xs : List Symbol) (e e' : Expr) → Gives xs e → Gives xs e' → e ≡ e'
unique xs e e' g g' =
    let ts : List Symbol = xs ++ (plain K.RParen ∷ []) in
    let d : ℕ = suc (length ts) in
    same_of e e' [] (d ≤ length ts) (cell d ts) (cell_complete d xs e g []) (cell_complete d xs e' g' []) (length ts) (cell_fin d ts) (λ h. omega arith)
