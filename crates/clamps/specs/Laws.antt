-- Laws: what the literals say. Assumes nothing.
use Rattle.std.specs.Prelude.{◌≡◌, refl, Bool, true, false, cond, ◌||◌, Option, Some, None, is_some, option_map}
use Rattle.std.proofs.Common.{sym, ap}
use Rattle.text.specs.Ascii.{Bytes, ascii}
use Rattle.text.specs.Compare.{same}
use Rattle.text.specs.Sames.{same_eq, no_true}
use Rattle.spans.specs.Span.{bytes}
use Rattle.names.specs.Name.{name_of}
use Rattle.model.specs.Records.{Isolation}
use Rattle.store.specs.Strings.{string}
use Rattle.store.specs.declared.stored.Stored.{Stored}
use Rattle.texts.specs.Literals.{literal}
use Rattle.texts.specs.declared.Literal.{Literal}
use Rattle.texts.specs.Isolation.{lowered, is_clamp, active_of}
use Rattle.clamps.specs.Values.{stored_name, clamp_literal, is_low, active_literal}

pub stored_is : (mem : Bytes) (s : Stored) → name_of mem (stored_name s) ≡ string mem s
unfolding name_of bytes
stored_is mem s = refl

-- there is a literal for a clamp value that is simulated
pub clamp_known : (c : Bytes) → is_clamp c ≡ is_some (clamp_literal c)
unfolding clamp_literal
clamp_known c = go (same c (ascii "0")) (same c (ascii "1")) (same c (ascii "z"))
  where
    go : (x y z : Bool) → x || (y || z) ≡ is_some (cond x (Some Literal.Zero) (cond y (Some Literal.One) (cond z (Some Literal.Z) None)))
    go true y z = refl
    go false true z = refl
    go false false true = refl
    go false false false = refl

-- the literals are the values
pub clamp_text_lem : (c : Bytes) → is_clamp c ≡ true → option_map literal (clamp_literal c) ≡ Some c
unfolding clamp_literal
clamp_text_lem c h = go (same c (ascii "0")) refl (same c (ascii "1")) refl (same c (ascii "z")) refl h
  where
    go : (x : Bool) → same c (ascii "0") ≡ x → (y : Bool) → same c (ascii "1") ≡ y → (z : Bool) → same c (ascii "z") ≡ z → x || (y || z) ≡ true → option_map literal (cond x (Some Literal.Zero) (cond y (Some Literal.One) (cond z (Some Literal.Z) None))) ≡ Some c
    go true e y f z g k = ap (λ (t : Bytes). Some t) (sym (same_eq c (ascii "0") e))
    go false e true f z g k = ap (λ (t : Bytes). Some t) (sym (same_eq c (ascii "1") f))
    go false e false f true g k = ap (λ (t : Bytes). Some t) (sym (same_eq c (ascii "z") g))
    go false e false f false g k = absurd (no_true k)

pub active_text_lem : (i : Isolation) → literal (active_literal (is_low (lowered i.sense))) ≡ active_of i
unfolding is_low
active_text_lem i = go (same (lowered i.sense) (ascii "low"))
  where
    go : (b : Bool) → literal (active_literal b) ≡ cond b (ascii "1'b0") (ascii "1'b1")
    go true = refl
    go false = refl
