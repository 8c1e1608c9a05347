-- One file, taken apart at the semicolon: the tokens before and after it, and that what is written of those after it is
-- what they make by themselves.
use Prim.Native.Nat.{ℕ, suc, ◌+◌, ◌≤◌}
use native.Mathlib.Omega.{arith}
use mathlib.Core.Path.{◌≡◌, refl, ap, sym, ◌∙◌, subst}
use mathlib.Core.Bool.{Bool, true, false, cond, ◌&&◌, false≢true}
use mathlib.Core.List.{List, [], ◌∷◌, ◌++◌, append_assoc, append-nil}
use lib.Dec.{eqb, leb}
use lib.ListN.{length, take, drop, length-append, length-drop}
use lib.Seq.{drop-drop, length-take-le}
use Rattle.definitions.specs.LexError as L
use Rattle.definitions.specs.TokenKind as K
use Rattle.definitions.specs.NodeKind as N
use Rattle.definitions.specs.StaticText.{static_texts, same, fits_text}
use Rattle.definitions.specs.Token.{Token, is_error, seen, byte_count}
use Rattle.definitions.specs.Grammar.{SourceFile}
use Rattle.definitions.specs.Skeleton.{Report}
use Rattle.definitions.specs.Run.{taken}
use Rattle.definitions.specs.Place.{Tree, nil, leaf, subtree, ◌⊕◌, root}
use Rattle.definitions.specs.Call.{run_entry}
use Rattle.laws.specs.Lossless.{KindOf, one_token, a_name}
use Rattle.laws.proofs.Skeleton.{bytes_append}
use Rattle.laws.proofs.Tree.{leaves, leaves_beside}
use Rattle.laws.proofs.Placed.{root_whole}
use Rattle.laws.proofs.Between.{entry_reads}
use Rattle.laws.proofs.Swept.{entry_leaves}
use Rattle.laws.proofs.Names.{entry_names}
use Rattle.laws.proofs.Leaves.{Right, right_root}
use Rattle.laws.proofs.Input.{TextsFit, Checked, checked_input}
use Rattle.rows.specs.ResultRows.{Row, raw_tokens, raw_bytes, tree_rows}
use Rattle.recovery.specs.Recovery.{File, result, Accepted, is_statement, Semicolon, token_index, start_byte, row_number}
use Rattle.recovery.proofs.Told.{All, told, told_join, Above}
use Rattle.recovery.proofs.Meaning.{ends_in, closes, ends_beside}
use Rattle.recovery.proofs.Turns.{children, Part, part_here, Found, find_in}
use Rattle.rows.proofs.Written.{rows_of, tokens_counted, bytes_counted}
use Rattle.recovery.proofs.Written.{file_tokens, made_of, told_of, Wrote, wrote}
use Rattle.recovery.proofs.Cut.{Placed, placed}
use Rattle.recovery.proofs.NamesApart.{NamesApart, names_apart}

-- ---------------------------------------------------------------- a semicolon is one byte long

texts_at : (ps : List Token) (t : Token) (us : List Token) (bytes : List ℕ) → TextsFit bytes (ps ++ (t ∷ us)) → fits_text static_texts t.kind (take t.len (drop (byte_count ps) bytes)) ≡ true
unfolding byte_count
texts_at [] t us bytes h = h.0
texts_at (p ∷ ps) t us bytes h = ap (λ (l : List ℕ). fits_text static_texts t.kind (take t.len l)) (sym (drop-drop (byte_count ps) p.len bytes)) ∙ texts_at ps t us (drop p.len bytes) h.1

one_byte : (l : List ℕ) → fits_text static_texts K.Semicolon l ≡ true → length l ≡ 1
unfolding fits_text same
one_byte [] e = absurd (false≢true e)
one_byte (x ∷ []) e = refl
one_byte (x ∷ y ∷ l) e = absurd (go (eqb 59 x) e)
  where
    go : (b : Bool) → (b && false) ≡ true → ⊥
    go true e = false≢true e
    go false e = false≢true e

semicolon_length : (f : File) (ps : List Token) (t : Token) (us : List Token) → Checked f.bytes f.tokens → file_tokens f ≡ ps ++ (t ∷ us) → t.kind ≡ K.Semicolon → t.len ≡ 1
unfolding byte_count
semicolon_length f ps t us c e k =
    let bytes : List ℕ = f.bytes in
    let a : byte_count ps + (t.len + byte_count us) ≡ length bytes = sym (bytes_append ps (t ∷ us)) ∙ ap byte_count (sym e) ∙ c.covered in
    let d : t.len ≤ length (drop (byte_count ps) bytes) = omega (arith, length-drop (byte_count ps) bytes) in
    let g : fits_text static_texts K.Semicolon (take t.len (drop (byte_count ps) bytes)) ≡ true =
    ap (λ (n : ℕ). fits_text static_texts n (take t.len (drop (byte_count ps) bytes))) (sym k) ∙ texts_at ps t us bytes (subst (TextsFit bytes) e c.texts) in
    sym (length-take-le t.len (drop (byte_count ps) bytes) d) ∙ one_byte _ g

-- ---------------------------------------------------------------- a semicolon's leaf is one token

pub record One (raw : List Token) : Type 0 where
  pub token : Token
  pub is : raw ≡ token ∷ []
  pub kind : token.kind ≡ K.Semicolon

seen_semicolon : (t : Token) → K.Semicolon ≡ seen t → t.kind ≡ K.Semicolon
unfolding seen
seen_semicolon t e = go (is_error t.kind) e
  where
    go : (b : Bool) → K.Semicolon ≡ cond b K.Unrecognized t.kind → t.kind ≡ K.Semicolon
    go true e = absurd (omega arith)
    go false e = sym e

one_of_kind : (raw : List Token) → KindOf K.Semicolon raw → One raw
one_of_kind raw (one_token t e) = record { token = t; is = refl; kind = seen_semicolon t e }
one_of_kind raw (a_name t ts e h) = absurd (omega arith)

right_after : (f g : Tree) → Right (f ⊕ g) → Right g
unfolding Right ◌⊕◌
right_after nil g h = h
right_after (leaf k us f) g h = right_after f g h.1
right_after (subtree k c f) g h = right_after f g h.1

right_last : (f : Tree) (k : ℕ) (i : Tree) (raw : List Token) (v : Tree) → Right (f ⊕ subtree k (i ⊕ leaf K.Semicolon raw nil) v) → One raw
unfolding Right
right_last f k i raw v h = one_of_kind raw (right_after i (leaf K.Semicolon raw nil) (right_after f _ h).0).0

-- ---------------------------------------------------------------- a file's children

children_right : (ts : List Token) → Right (children (run_entry SourceFile ts) ts)
unfolding Right root children
children_right ts = (right_root N.SourceFile (run_entry SourceFile ts) ts ((entry_reads SourceFile ts).reads ts refl) (entry_names SourceFile ts)).0

children_leaves : (ts : List Token) → leaves (children (run_entry SourceFile ts) ts) ≡ ts
unfolding root leaves children
children_leaves ts = sym (append-nil _) ∙ root_whole N.SourceFile (run_entry SourceFile ts) ts (entry_leaves SourceFile ts)

leaves_around : (f : Tree) (k : ℕ) (i : Tree) (t : Token) (v : Tree) → leaves (f ⊕ subtree k (i ⊕ leaf K.Semicolon (t ∷ []) nil) v) ≡ (leaves f ++ leaves i) ++ (t ∷ leaves v)
unfolding leaves
leaves_around f k i t v =
    leaves_beside f _
    ∙ ap (λ (l : List Token). leaves f ++ (l ++ leaves v)) (leaves_beside i _)
    ∙ ap (leaves f ++◌) (append_assoc (leaves i) (t ∷ []) (leaves v))
    ∙ sym (append_assoc (leaves f) (leaves i) _)

statement_closes : (k : ℕ) (i : Tree) (raw : List Token) → is_statement k ≡ true → closes k (i ⊕ leaf K.Semicolon raw nil) ≡ true
unfolding ends_in
statement_closes k i raw e = ap (◌&& ends_in false (i ⊕ leaf K.Semicolon raw nil)) e ∙ ends_beside false i _

-- ---------------------------------------------------------------- the file

pub record Tail (f : File) (s : Semicolon (tree_rows (result f))) : Type 0 where
  pub head : List Token
  pub semicolon : Token
  pub rest : List Token
  pub file : file_tokens f ≡ head ++ (semicolon ∷ rest)
  pub one_byte_long : semicolon.len ≡ 1
  pub no_error : is_error semicolon.kind ≡ false
  pub at_index : token_index s ≡ length head
  pub at_byte : start_byte s ≡ byte_count head
  pub parts : s.later ≡ rows_of 0 (suc (row_number s)) (children (run_entry SourceFile rest) rest)
  pub early : List Report
  pub reports : told_of f ≡ early ++ told (run_entry SourceFile rest)
  pub above : All (Above (length rest)) early
  pub names : NamesApart f.setting f.bytes (file_tokens f) rest (length head) (byte_count head)

counted : (m : Tree → ℕ) (g : List Row → ℕ) → ((x : Tree) (p i : ℕ) → g (rows_of p i x) ≡ m x) → (f h : Tree) (p i q j : ℕ) (l n : List Row) → rows_of p i f ≡ l → rows_of q j h ≡ n
    → g l + g n ≡ m f + m h
counted m g e f h p i q j l n x y = rw (← x, ← y, e f p i, e h q j) refl

-- ONE FILE
pub tail : (f : File) → Accepted f → (s : Semicolon (tree_rows (result f))) → Tail f s
unfolding token_index start_byte is_error
tail f h s =
    let W : Wrote f = wrote f h in
    let ts : List Token = file_tokens f in
    let X : Tree = children (made_of f) ts in
    let P : Placed X s = placed N.SourceFile X s W.trees in
    let O : One P.raw = right_last P.before P.kind P.inside P.raw P.later (subst Right P.is (children_right ts)) in
    let i : Tree = P.inside ⊕ leaf K.Semicolon P.raw nil in
    let F : Found (taken ts) (made_of f) P.later =
    find_in P.kind i P.later (statement_closes P.kind P.inside P.raw P.statement) ts
    (subst (λ (x : Tree). Part x P.kind i P.later) (sym P.is) (part_here P.before P.kind i P.later)) in
    let t : X ≡ P.before ⊕ subtree P.kind (P.inside ⊕ leaf K.Semicolon (O.token ∷ []) nil) P.later =
    P.is ∙ ap (λ (r : List Token). P.before ⊕ subtree P.kind (P.inside ⊕ leaf K.Semicolon r nil) P.later) O.is in
    let u : leaves P.later ≡ F.rest = ap leaves F.beyond ∙ children_leaves F.rest in
    let e : ts ≡ (leaves P.before ++ leaves P.inside) ++ (O.token ∷ F.rest) =
    sym (children_leaves ts)
    ∙ ap leaves t
    ∙ leaves_around P.before P.kind P.inside O.token P.later
    ∙ ap (λ (l : List Token). (leaves P.before ++ leaves P.inside) ++ (O.token ∷ l)) u in
    let w : O.token.len ≡ 1 = semicolon_length f (leaves P.before ++ leaves P.inside) O.token F.rest (checked_input f.bytes f.tokens W.input) e O.kind in
    record {
      head = leaves P.before ++ leaves P.inside;
      semicolon = O.token;
      rest = F.rest;
      file = e;
      one_byte_long = w;
      no_error = ap (leb L.UnexpectedEndIncbin) O.kind;
      at_index =
          counted (λ (x : Tree). length (leaves x)) raw_tokens tokens_counted P.before P.inside 0 1 _ _ s.before s.inside P.rows_before P.rows_inside
          ∙ sym (length-append (leaves P.before) (leaves P.inside));
      at_byte =
          counted (λ (x : Tree). byte_count (leaves x)) raw_bytes bytes_counted P.before P.inside 0 1 _ _ s.before s.inside P.rows_before P.rows_inside
          ∙ sym (bytes_append (leaves P.before) (leaves P.inside));
      parts = sym P.rows_later ∙ ap (rows_of 0 (suc (row_number s))) F.beyond;
      early = told F.first;
      reports = ap told F.is ∙ told_join F.first (run_entry SourceFile F.rest);
      above = F.above;
      names = names_apart P.before P.kind P.inside O.token P.later w f.setting f.bytes ts F.rest t F.beyond;
    }
