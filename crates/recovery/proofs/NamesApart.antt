-- The Names that a setting reports in a file, taken apart at a semicolon: those after it are the ones that the tokens
-- after it have by themselves, moved.
use Prim.Native.Nat.{ℕ, suc, ◌+◌, ◌-◌, ◌≤◌}
use native.Mathlib.Omega.{arith}
use mathlib.Core.Path.{◌≡◌, refl, ap, sym, ◌∙◌}
use mathlib.Core.Bool.{Bool, true, false, cond, ◌&&◌}
use mathlib.Core.List.{List, [], ◌∷◌, ◌++◌, append_assoc, append-nil, map, map-append}
use lib.Dec.{eqb}
use lib.ListN.{length, take, drop, length-append}
use lib.Seq.{drop-drop}
use Rattle.definitions.specs.Layout.{OLD_SETTING}
use Rattle.definitions.specs.TokenKind as K
use Rattle.definitions.specs.Token.{Token, byte_count}
use Rattle.definitions.specs.Grammar.{SourceFile, root_kind}
use Rattle.definitions.specs.Skeleton.{Skeleton}
use Rattle.definitions.specs.Place.{Tree, nil, leaf, subtree, ◌⊕◌, root, width}
use Rattle.definitions.specs.Strict.{NameAt, keeps_rule, judges, token_count, judged, breaking, reported_names}
use Rattle.definitions.specs.Call.{run_entry, names_of}
use Rattle.basics.proofs.Tests.{cond-all}
use Rattle.laws.proofs.Skeleton.{bytes_append}
use Rattle.laws.proofs.Tree.{leaves, leaves_beside, width_leaves, tokens_leaves}
use Rattle.laws.proofs.NamesPlaced.{judged_beside}
use Rattle.recovery.proofs.Told.{All, all_append}
use Rattle.recovery.proofs.Turns.{children}

-- so many tokens and bytes further on
abbrev pub shift : ℕ → ℕ → NameAt → NameAt
shift a b n = record { first_token = a + n.first_token; start = b + n.start; end = b + n.end }

-- a function of what a test chooses
under_test : (f : List NameAt → List NameAt) (b : Bool) (x y : List NameAt) → cond b (f x) (f y) ≡ f (cond b x y)
under_test f true x y = refl
under_test f false x y = refl

-- ---------------------------------------------------------------- those of a tree

-- the same tree further on
judged_shifted : (a b : ℕ) (u : Bool) (at byte : ℕ) (f : Tree) → judged u (a + at) (b + byte) f ≡ map (shift a b) (judged u at byte f)
unfolding judged
judged_shifted a b u at byte nil = refl
judged_shifted a b u at byte (leaf k ts f) =
    let d : a + at + length ts ≡ a + (at + length ts) = omega arith in
    let e : b + byte + byte_count ts ≡ b + (byte + byte_count ts) = omega arith in
    let n : NameAt = record { first_token = at; start = byte; end = byte + byte_count ts } in
    let l : List NameAt = judged u (at + length ts) (byte + byte_count ts) f in
    let h : judged u (a + at + length ts) (b + byte + byte_count ts) f ≡ map (shift a b) l = (λ i. judged u (d i) (e i) f) ∙ judged_shifted a b u (at + length ts) (byte + byte_count ts) f in
    (λ i. cond (u && eqb k K.Name) (record { first_token = a + at; start = b + byte; end = e i } ∷ h i) (h i)) ∙ under_test (map (shift a b)) (u && eqb k K.Name) (n ∷ l) l
judged_shifted a b u at byte (subtree k c f) =
    let d : a + at + token_count c ≡ a + (at + token_count c) = omega arith in
    let e : b + byte + width c ≡ b + (byte + width c) = omega arith in
    (λ i. judged_shifted a b (judges k c) at byte c i ++ ((λ j. judged u (d j) (e j) f) ∙ judged_shifted a b u (at + token_count c) (byte + width c) f) i)
    ∙ sym (map-append (shift a b) (judged (judges k c) at byte c) (judged u (at + token_count c) (byte + width c) f))

-- none starts past the tree's last token
judged_up_to : (m : ℕ) (u : Bool) (at byte : ℕ) (f : Tree) → at + token_count f ≤ m → All (λ n. n.first_token ≤ m) (judged u at byte f)
unfolding judged token_count
judged_up_to m u at byte nil h = tt
judged_up_to m u at byte (leaf k ts f) h =
    let n : NameAt = record { first_token = at; start = byte; end = byte + byte_count ts } in
    let l : List NameAt = judged u (at + length ts) (byte + byte_count ts) f in
    let g : All (λ n. n.first_token ≤ m) l = judged_up_to m u (at + length ts) (byte + byte_count ts) f (omega arith) in
    cond-all (All (λ n. n.first_token ≤ m)) (u && eqb k K.Name) {x = n ∷ l} {y = l} (let z : at ≤ m = omega arith in z, g) g
judged_up_to m u at byte (subtree k c f) h =
    all_append _ (judged (judges k c) at byte c) _ (judged_up_to m (judges k c) at byte c (omega arith)) (judged_up_to m u (at + token_count c) (byte + width c) f (omega arith))

-- a semicolon is no Name
judged_semicolon : (u : Bool) (at byte : ℕ) (f : Tree) (raw : List Token) → judged u at byte (f ⊕ leaf K.Semicolon raw nil) ≡ judged u at byte f
unfolding judged
judged_semicolon true at byte f raw = judged_beside true at byte f (leaf K.Semicolon raw nil) ∙ append-nil _
judged_semicolon false at byte f raw = judged_beside false at byte f (leaf K.Semicolon raw nil) ∙ append-nil _

-- ---------------------------------------------------------------- those that break the rule

breaking_append : (bytes : List ℕ) (l m : List NameAt) → breaking bytes (l ++ m) ≡ breaking bytes l ++ breaking bytes m
unfolding breaking
breaking_append bytes [] m = refl
breaking_append bytes (n ∷ l) m =
    let b : Bool = keeps_rule (take (n.end - n.start) (drop n.start bytes)) in
    let x : List NameAt = breaking bytes l in
    ap (λ (y : List NameAt). cond b y (n ∷ y)) (breaking_append bytes l m) ∙ under_test (◌++ breaking bytes m) b x (n ∷ x)

breaking_all : (P : NameAt → Type 0) (bytes : List ℕ) (l : List NameAt) → All P l → All P (breaking bytes l)
unfolding breaking
breaking_all P bytes [] h = tt
breaking_all P bytes (n ∷ l) h =
    let x : List NameAt = breaking bytes l in
    let g : All P x = breaking_all P bytes l h.1 in
    cond-all (All P) (keeps_rule (take (n.end - n.start) (drop n.start bytes))) {x = x} {y = n ∷ x} g (h.0, g)

-- further on, with that many bytes before
breaking_shifted : (a b : ℕ) (bytes : List ℕ) (l : List NameAt) → breaking bytes (map (shift a b) l) ≡ map (shift a b) (breaking (drop b bytes) l)
unfolding breaking
breaking_shifted a b bytes [] = refl
breaking_shifted a b bytes (n ∷ l) =
    let d : b + n.end - (b + n.start) ≡ n.end - n.start = omega arith in
    let e : drop (b + n.start) bytes ≡ drop n.start (drop b bytes) = sym (drop-drop n.start b bytes) in
    let x : List NameAt = breaking (drop b bytes) l in
    (λ i. cond (keeps_rule (take (d i) (e i))) (breaking_shifted a b bytes l i) (shift a b n ∷ breaking_shifted a b bytes l i))
    ∙ under_test (map (shift a b)) (keeps_rule (take (n.end - n.start) (drop n.start (drop b bytes)))) x (n ∷ x)

-- ---------------------------------------------------------------- a source file's

-- the old setting reports none
unless_both : (f : NameAt → NameAt) (b : Bool) (x y : List NameAt) → cond b [] (x ++ map f y) ≡ cond b [] x ++ map f (cond b [] y)
unless_both f true x y = refl
unless_both f false x y = refl

-- the root is neither a DtLabel nor a DtPhandle
judged_root : (o : Skeleton) (ts : List Token) → judged false 0 0 (root (root_kind SourceFile) o ts) ≡ judged false 0 0 (children o ts)
unfolding judged judges root root_kind children
judged_root o ts = append-nil _

-- of the tree that stands under the root
abbrev reported : ℕ → List ℕ → Tree → List NameAt
reported setting bytes f = cond (eqb setting OLD_SETTING) [] (breaking bytes (judged false 0 0 f))

names_reported : (setting : ℕ) (bytes : List ℕ) (ts : List Token) → names_of setting SourceFile bytes ts ≡ reported setting bytes (children (run_entry SourceFile ts) ts)
unfolding reported_names
names_reported setting bytes ts = ap (λ (l : List NameAt). cond (eqb setting OLD_SETTING) [] (breaking bytes l)) (judged_root (run_entry SourceFile ts) ts)

-- by the same setting, of the same bytes
pub names_same : (s t : ℕ) (bytes others : List ℕ) (ts : List Token) → eqb s OLD_SETTING ≡ eqb t OLD_SETTING → bytes ≡ others → names_of s SourceFile bytes ts ≡ names_of t SourceFile others ts
unfolding reported_names
names_same s t bytes others ts e h = λ i. cond (e i) [] (breaking (h i) (judged false 0 0 (root (root_kind SourceFile) (run_entry SourceFile ts) ts)))

-- The file `ts` with a semicolon at token i and byte p, and `rest` after it.
pub record NamesApart (setting : ℕ) (bytes : List ℕ) (ts rest : List Token) (i p : ℕ) : Type 0 where
  pub early : List NameAt
  pub is : names_of setting SourceFile bytes ts ≡ early ++ map (shift (suc i) (suc p)) (names_of setting SourceFile (drop (suc p) bytes) rest)
  pub not_after : All (λ n. n.first_token ≤ i) early

module _ (before : Tree) (k : ℕ) (inside : Tree) (t : Token) (later : Tree) (one_byte : t.len ≡ 1) where
  abbrev part : Tree
  part = inside ⊕ leaf K.Semicolon (t ∷ []) nil

  abbrev i : ℕ
  i = length (leaves before ++ leaves inside)

  abbrev p : ℕ
  p = byte_count (leaves before ++ leaves inside)

  -- up to the semicolon
  abbrev first : List NameAt
  first = judged false 0 0 before ++ judged (judges k part) (0 + token_count before) (0 + width before) inside

  tokens_before : token_count before + token_count inside ≡ i
  tokens_before = let e = tokens_leaves before in let f = tokens_leaves inside in omega (arith, length-append (leaves before) (leaves inside))

  bytes_before : width before + width inside ≡ p
  bytes_before = let e = width_leaves before in let f = width_leaves inside in omega (arith, bytes_append (leaves before) (leaves inside))

  first_early : All (λ n. n.first_token ≤ i) first
  first_early =
      all_append _ (judged false 0 0 before) _ (judged_up_to i false 0 0 before (omega (arith, tokens_before)))
      (judged_up_to i (judges k part) (0 + token_count before) (0 + width before) inside (omega (arith, tokens_before)))

  -- and after it
  part_leaves : leaves part ≡ leaves inside ++ (t ∷ [])
  unfolding leaves
  part_leaves = leaves_beside inside (leaf K.Semicolon (t ∷ []) nil)

  after_tokens : 0 + token_count before + token_count part ≡ suc i + 0
  after_tokens =
      let e : token_count part ≡ length (leaves inside) + 1 = tokens_leaves part ∙ ap length part_leaves ∙ length-append (leaves inside) (t ∷ []) in
      let f : token_count inside ≡ length (leaves inside) = tokens_leaves inside in
      omega (arith, tokens_before)

  after_bytes : 0 + width before + width part ≡ suc p + 0
  unfolding byte_count
  after_bytes =
      let e : width part ≡ byte_count (leaves inside) + (t.len + 0) = width_leaves part ∙ ap byte_count part_leaves ∙ bytes_append (leaves inside) (t ∷ []) in
      let f : width inside ≡ byte_count (leaves inside) = width_leaves inside in
      omega (arith, bytes_before, one_byte)

  judged_apart : judged false 0 0 (before ⊕ subtree k part later) ≡ first ++ map (shift (suc i) (suc p)) (judged false 0 0 later)
  unfolding judged
  judged_apart =
      judged_beside false 0 0 before (subtree k part later)
      ∙ (λ j. judged false 0 0 before ++ (judged_semicolon (judges k part) (0 + token_count before) (0 + width before) inside (t ∷ []) j ++ judged false (after_tokens j) (after_bytes j) later))
      ∙ sym (append_assoc (judged false 0 0 before) _ _)
      ∙ ap (first ++◌) (judged_shifted (suc i) (suc p) false 0 0 later)

  -- WHAT A FILE REPORTS, taken apart
  pub names_apart : (setting : ℕ) (bytes : List ℕ) (ts rest : List Token) → children (run_entry SourceFile ts) ts ≡ before ⊕ subtree k part later
      → later ≡ children (run_entry SourceFile rest) rest → NamesApart setting bytes ts rest i p
  names_apart setting bytes ts rest e f =
      let old : Bool = eqb setting OLD_SETTING in
      let ahead : NameAt → NameAt = shift (suc i) (suc p) in
      let late : List NameAt = breaking (drop (suc p) bytes) (judged false 0 0 later) in
      let both : breaking bytes (judged false 0 0 (before ⊕ subtree k part later)) ≡ breaking bytes first ++ map ahead late =
      ap (breaking bytes) judged_apart
      ∙ breaking_append bytes first _
      ∙ ap (breaking bytes first ++◌) (breaking_shifted (suc i) (suc p) bytes (judged false 0 0 later)) in
      record {
        early = cond old [] (breaking bytes first);
        is =
            names_reported setting bytes ts
            ∙ ap (reported setting bytes) e
            ∙ ap (cond old []) both
            ∙ unless_both ahead old (breaking bytes first) late
            ∙ ap (λ (l : List NameAt). cond old [] (breaking bytes first) ++ map ahead l) (ap (reported setting (drop (suc p) bytes)) f ∙ sym (names_reported setting (drop (suc p) bytes) rest));
        not_after = cond-all (All (λ n. n.first_token ≤ i)) old {x = []} {y = breaking bytes first} tt (breaking_all _ bytes first first_early);
      }
