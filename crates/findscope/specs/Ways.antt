-- Laws: the names on the way that a type search finds are NAMEs, so that the way can be written as text with dots and read again as its parts.
-- Assumes nothing.
use Rattle.std.specs.Prelude.{ℕ, zero, suc, ◌+◌, ◌*◌, ◌≤◌, ◌<◌, ◌≡◌, Bool, true, false, cond, length, Option, None, Some, option_map}
use Rattle.std.proofs.Math.Path.{refl}
use Rattle.std.proofs.Common.{ap, subst, ◌∙◌, arith, length-append, take_at, drop_at, ne_eqb}
use mathlib.Core.List.{List, [], ◌∷◌, ◌++◌}
use mathlib.Core.List.Memᴰ.{head as here}
use mathlib.Core.List.Memᴰ.{tail as there}
use mathlib.Core.List.{Memᴰ as Mem}
use Rattle.text.specs.Ascii.{Bytes, byte, ascii}
use Rattle.text.specs.Classes.{in_name}
use Rattle.text.specs.Compare.{same}
use Rattle.text.specs.Scan.{all, before}
use Rattle.text.specs.Sames.{both, no_true}
use Rattle.out.specs.Items.{behind, joined}
use Rattle.fields.specs.Fields.{is_name}
use Rattle.fields.specs.Names.{name_bytes, name_some, name_short}
use Rattle.joblines.specs.Job.{Inst, Module}
use Rattle.design.specs.AcceptedNames.{Named, AllNamed}
use Rattle.design.proofs.AcceptedNames.{no_some}
use Rattle.design.specs.Laws.{first_mem}
use Rattle.design.specs.Lists.{on_some}
use Rattle.design.specs.Lookup.{module_named}
use Rattle.design.specs.Search.{Search, nothing, under, at_instance, among_instances, search_from}
use Rattle.texts.specs.Scope.{override_parts}
use Rattle.scope.specs.Parts.{separates, no_parts, parts_skip, parts_word}

-- ---- the names of a way

-- every one is a NAME
abbrev pub AllNames : List Bytes → Type 0
AllNames ns = all is_name ns ≡ true

names_none : AllNames []
unfolding all
names_none = refl

names_more : (n : Bytes) (ns : List Bytes) → is_name n ≡ true → AllNames ns → AllNames (n ∷ ns)
unfolding all
names_more n ns h g = rw (h, g)

module _ (d : List Module) (kind : Bytes) (down : Module → Search) (h : (m : Module) → Mem m d → (ns : List Bytes) → (down m).found ≡ Some ns → AllNames ns) where
  below_named : (n : Bytes) → is_name n ≡ true → (m : Option Module) → ((x : Module) → m ≡ Some x → Mem x d) → (ns : List Bytes) → (on_some m nothing (λ x. under n (down x))).found ≡ Some ns → AllNames ns
  below_named n g None f ns e = absurd (no_some e)
  below_named n g (Some x) f ns e = go (down x).found refl e
    where
      go : (o : Option (List Bytes)) → (down x).found ≡ o → option_map (λ (l : List Bytes). n ∷ l) o ≡ Some ns → AllNames ns
      go None q k = absurd (no_some k)
      go (Some ms) q k = let z : n ∷ ms ≡ ns = cc in subst AllNames z (names_more n ms g (h x (f x refl) ms q))

  one_named : (i : Inst) → is_name i.name ≡ true → (ns : List Bytes) → (at_instance d kind down i).found ≡ Some ns → AllNames ns
  one_named i g ns e = go (same i.type kind) e
    where
      go : (b : Bool) → (cond b (record { found = Some (i.name ∷ []); calls = 0 }) (on_some (module_named d i.type) nothing λ m. under i.name (down m))).found ≡ Some ns → AllNames ns
      go true k = let z : i.name ∷ [] ≡ ns = cc in subst AllNames z (names_more i.name [] g names_none)
      go false k = below_named i.name g (module_named d i.type) (λ x q. first_mem (λ (m : Module). same m.name i.type) d q) ns k

  among_named : (is : List Inst) → ((i : Inst) → Mem i is → is_name i.name ≡ true) → (ns : List Bytes) → (among_instances d kind down is).found ≡ Some ns → AllNames ns
  unfolding among_instances
  among_named [] g ns e = absurd (no_some e)
  among_named (i ∷ is) g ns e = go (at_instance d kind down i).found refl e (λ k. among_named is (λ x m. g x (there m)) ns k)
    where
      go : (o : Option (List Bytes)) → (at_instance d kind down i).found ≡ o
          → (on_some o (record { found = (among_instances d kind down is).found; calls = (at_instance d kind down i).calls + (among_instances d kind down is).calls }) (λ ms. at_instance d kind down i)).found ≡ Some ns
          → ((among_instances d kind down is).found ≡ Some ns → AllNames ns) → AllNames ns
      go None q k ih = ih k
      go (Some ms) q k ih = one_named i (g i (here refl)) ns k

-- the names on the way that a search finds
pub search_named : (d : List Module) → AllNamed d → (kind : Bytes) (left : ℕ) (m : Module) → Named m → (ns : List Bytes) → (search_from d kind left m).found ≡ Some ns → AllNames ns
unfolding search_from
search_named d a kind zero m n ns e = absurd (no_some e)
search_named d a kind (suc left) m n ns e = among_named d kind (search_from d kind left) (λ x at. search_named d a kind left x (a x at)) m.insts n.insts ns e

-- ---- a NAME as a part

name_apart : (b : ℕ) → in_name b ≡ true → separates b ≡ false
name_apart b h =
    rw (
      ne_eqb b (byte "/") (λ e. no_true (subst (λ (x : ℕ). in_name x ≡ true) e h)),
      ne_eqb b (byte ".") (λ e. no_true (subst (λ (x : ℕ). in_name x ≡ true) e h)),
    )

name_end_lem : (w r : Bytes) → all in_name w ≡ true → before separates r ≡ 0 → before separates (w ++ r) ≡ length w
unfolding all before
name_end_lem [] r h e = e
name_end_lem (b ∷ w) r h e = let t = both (in_name b) (all in_name w) h in rw (name_apart b t.0) (ap suc (name_end_lem w r t.1 e))

part_then : (w r : Bytes) → is_name w ≡ true → before separates r ≡ 0 → override_parts (w ++ r) ≡ w ∷ override_parts r
part_then w r h e =
    let n : before separates (w ++ r) ≡ length w = name_end_lem w r (name_bytes w h) e in
    let l : 0 < before separates (w ++ r) = omega (arith, n, name_some w h) in
    parts_word (w ++ r) l ∙ rw (n, take_at w r (length w) refl, drop_at w r (length w) refl)

-- ---- the way as text

dot_first : (ns : List Bytes) → before separates (behind (ascii ".") ns) ≡ 0
unfolding behind before
dot_first [] = refl
dot_first (n ∷ ns) = refl

behind_parts : (ns : List Bytes) → AllNames ns → override_parts (behind (ascii ".") ns) ≡ ns
unfolding behind all
behind_parts [] h = no_parts
behind_parts (n ∷ ns) h =
    let t = both (is_name n) (all is_name ns) h in
    parts_skip (byte ".") (n ++ behind (ascii ".") ns) refl
    ∙ (part_then n (behind (ascii ".") ns) t.0 (dot_first ns) ∙ ap (λ (l : List Bytes). n ∷ l) (behind_parts ns t.1))

-- NAMEs with dots between them are read again as their parts
pub joined_parts : (ns : List Bytes) → AllNames ns → override_parts (joined (ascii ".") ns) ≡ ns
unfolding joined all
joined_parts [] h = no_parts
joined_parts (n ∷ ns) h =
    let t = both (is_name n) (all is_name ns) h in
    part_then n (behind (ascii ".") ns) t.0 (dot_first ns) ∙ ap (λ (l : List Bytes). n ∷ l) (behind_parts ns t.1)

behind_short : (ns : List Bytes) → AllNames ns → length (behind (ascii ".") ns) ≤ 65 * length ns
unfolding behind all
behind_short [] h = omega arith
behind_short (n ∷ ns) h =
    let t = both (is_name n) (all is_name ns) h in
    omega (arith, length-append n (behind (ascii ".") ns), name_short n t.0, behind_short ns t.1)

-- and 33 of them have 2,144 bytes at most
pub joined_short : (ns : List Bytes) → AllNames ns → length ns ≤ 33 → length (joined (ascii ".") ns) ≤ 2144
unfolding joined all
joined_short [] h g = omega arith
joined_short (n ∷ ns) h g =
    let t = both (is_name n) (all is_name ns) h in
    omega (arith, length-append n (behind (ascii ".") ns), name_short n t.0, behind_short ns t.1)
