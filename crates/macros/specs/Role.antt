-- What a token is to the macro argument that it is read in: the answer of `role_of`.
use Rattle.std.specs.Prelude.{ℕ, zero, suc, cond, eqb}
use Rattle.definitions.specs.TokenKind as K
use Rattle.token_rows.specs.Tokens.{SEEN_AT_END}
use Rattle.macros.specs.declared.Role.{Role}
use Rattle.macros.specs.declared.Role.TheVariants.{Comma, End, Inside}

-- in so many inner brackets: outside all of them p
abbrev pub within : ℕ → Role → Role → Role
within zero p q = p
within (suc n) p q = q

abbrev pub one_less : ℕ → ℕ
one_less zero = zero
one_less (suc n) = n

-- seen as kind k, or as the end, with n inner brackets open before it
unfoldable pub role : ℕ → ℕ → Role
role k n =
    cond (eqb k SEEN_AT_END) End
    (cond (eqb k K.LParen) (Inside (suc n))
    (cond (eqb k K.RParen) (within n End (Inside (one_less n))) (cond (eqb k K.Comma) (within n Comma (Inside n)) (Inside n))))
