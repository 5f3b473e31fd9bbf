-- A template: Rust's format strings with places such as `{0}`, `{{` for `{` and `}}` for `}`. Assumes nothing.
use Prim.Native.String.{String}
use Rattle.std.specs.Prelude.{ℕ, ◌+◌, ◌-◌, ◌≡◌, refl, Option, Some, None, Bool, true, false, cond, ◌&&◌, ◌||◌, [], ◌∷◌, ◌++◌, eqb, leb, ltb, get_or}
use Rattle.text.specs.Ascii.{Bytes, ascii, byte}
use Rattle.text.specs.Classes.{within}
use Rattle.out.specs.Emit.{Out, emit1, emit, emit_append}
use Rattle.out.specs.Bytewise.{mangle, dotted, sv_str}
use Rattle.out.specs.declared.bytewise.Mode.{Mode}

-- the argument of a number
unfoldable pub pick : ℕ → Bytes → Bytes → Bytes → Bytes → Bytes → Bytes
pick k a b c d e = cond (eqb k 0) a (cond (eqb k 1) b (cond (eqb k 2) c (cond (eqb k 3) d e)))

-- what a byte between braces stands for: `0` to `4` the argument, `A` to `E` the argument as a string of SystemVerilog, `a` to `e` the
-- argument mangled, `p` to `t` the argument with `/` as `.`
unfoldable pub arg : Bytes → Bytes → Bytes → Bytes → Bytes → ℕ → Bytes
arg a b c d e k =
    cond (within (byte "0") (byte "4") k) (pick (k - byte "0") a b c d e)
    (cond (within (byte "A") (byte "E") k) (sv_str (pick (k - byte "A") a b c d e))
    (cond (within (byte "a") (byte "e") k) (mangle (pick (k - byte "a") a b c d e))
    (cond (within (byte "p") (byte "t") k) (dotted (pick (k - byte "p") a b c d e)) [])))

-- what a byte between braces asks for: how its argument is written, and that argument's number
abbrev pub asked : ℕ → Option (Mode × ℕ)
asked k =
    cond (within (byte "0") (byte "4") k) (Some (Mode.Same, k - byte "0"))
    (cond (within (byte "A") (byte "E") k) (Some (Mode.Quoted, k - byte "A"))
    (cond (within (byte "a") (byte "e") k) (Some (Mode.Mangled, k - byte "a"))
    (cond (within (byte "p") (byte "t") k) (Some (Mode.Dotted, k - byte "p")) None)))

-- what a byte of the template adds, by the state before it: 0 in the text, 1 behind a `{`, 2 at a byte to pass over
unfoldable pub adds : (ℕ → Bytes) → ℕ → ℕ → Bytes
adds a s b = cond (eqb s 0) (cond (eqb b (byte "{")) [] (b ∷ [])) (cond (eqb s 1) (cond (eqb b (byte "{")) (b ∷ []) (a b)) [])

-- the state behind it
unfoldable pub turns : ℕ → ℕ → ℕ
turns s b = cond (eqb s 0) (cond (eqb b (byte "{")) 1 (cond (eqb b (byte "}")) 2 0)) (cond (eqb s 1) (cond (eqb b (byte "{")) 0 2) 0)

unfoldable pub filled : (ℕ → Bytes) → ℕ → Bytes → Bytes
filled a s [] = []
filled a s (b ∷ t) = adds a s b ++ filled a (turns s b) t

-- the template t with the five arguments in their places
unfoldable pub fill : Bytes → Bytes → Bytes → Bytes → Bytes → Bytes → Bytes
unfolding filled
fill t a b c d e = filled (arg a b c d e) 0 t

-- Rust's `format!` with one to five arguments
abbrev pub format1 : String → Bytes → Bytes
format1 t a = fill (ascii t) a [] [] [] []

abbrev pub format2 : String → Bytes → Bytes → Bytes
format2 t a b = fill (ascii t) a b [] [] []

abbrev pub format3 : String → Bytes → Bytes → Bytes → Bytes
format3 t a b c = fill (ascii t) a b c [] []

abbrev pub format4 : String → Bytes → Bytes → Bytes → Bytes → Bytes
format4 t a b c d = fill (ascii t) a b c d []

abbrev pub format5 : String → Bytes → Bytes → Bytes → Bytes → Bytes → Bytes
format5 t a b c d e = fill (ascii t) a b c d e

example : (x y : Bytes) → format2 "if ({0} & {1}) '{{ON}}' {a};" x y ≡ ascii "if (" ++ (x ++ (ascii " & " ++ (y ++ (ascii ") '{ON}' " ++ (mangle x ++ (ascii ";"))))))
unfolding fill filled adds turns arg pick
example x y = refl

-- ---- what is a template of n arguments: every `{` is doubled or begins `{k}` with a letter of an argument that there is, every `}` is doubled

abbrev pub places : ℕ → ℕ → ℕ → Bool
places n base k = leb base k && ltb k (base + n)

abbrev pub is_argument : ℕ → ℕ → Bool
is_argument n k = places n (byte "0") k || (places n (byte "A") k || (places n (byte "a") k || places n (byte "p") k))

-- the state: 0 in the text, 1 behind a `{`, 2 behind a letter, 3 behind a `}`
abbrev pub allowed : ℕ → ℕ → ℕ → Bool
allowed n s b = cond (eqb s 0) true (cond (eqb s 1) (eqb b (byte "{") || is_argument n b) (eqb b (byte "}")))

abbrev pub goes : ℕ → ℕ → ℕ
goes s b = cond (eqb s 0) (cond (eqb b (byte "{")) 1 (cond (eqb b (byte "}")) 3 0)) (cond (eqb s 1) (cond (eqb b (byte "{")) 0 2) 0)

abbrev pub template_from : ℕ → ℕ → Bytes → Bool
template_from n s [] = eqb s 0
template_from n s (b ∷ t) = allowed n s b && template_from n (goes s b) t

abbrev pub is_template : ℕ → Bytes → Bool
is_template n t = template_from n 0 t

unknown_letter : is_template 1 (ascii "a {x} b") ≡ false
unknown_letter = refl

missing_argument : is_template 1 (ascii "{0} {1}") ≡ false
missing_argument = refl

-- ---- a template read in runs: the bytes before a brace, then what the brace begins

abbrev pub is_brace : ℕ → Bool
is_brace b = eqb b (byte "{") || eqb b (byte "}")

-- what the mark at the head of a text adds, and how many bytes it has
unfoldable pub mark_text : (ℕ → Bytes) → Bytes → Bytes
mark_text a [] = []
mark_text a (x ∷ s) = cond (eqb x (byte "}")) (x ∷ []) (cond (eqb (get_or s 0 0) (byte "{")) (byte "{" ∷ []) (a (get_or s 0 0)))

unfoldable pub mark_size : Bytes → ℕ
mark_size [] = 0
mark_size (x ∷ s) = cond (eqb x (byte "}")) 2 (cond (eqb (get_or s 0 0) (byte "{")) 2 3)

-- ---- laws

-- A template written byte by byte. At a template that is written out it computes to the writes of its bytes and arguments, so that
-- two ways to cut one text into templates are the same by computation, under `unfolding writes turns arg pick`.
unfoldable pub writes : (ℕ → Bytes) → ℕ → Out → ℕ → Out
writes a s o b = cond (eqb s 0) (cond (eqb b (byte "{")) o (emit1 o b)) (cond (eqb s 1) (cond (eqb b (byte "{")) (emit1 o b) (emit o (a b))) o)

abbrev pub runs : (ℕ → Bytes) → ℕ → Out → Bytes → Out
runs a s o [] = o
runs a s o (b ∷ t) = runs a (turns s b) (writes a s o b) t

emit_adds : (a : ℕ → Bytes) (s : ℕ) (o : Out) (b : ℕ) → emit o (adds a s b) ≡ writes a s o b
unfolding adds writes emit
emit_adds a s o b = go (eqb s 0) (eqb s 1) (eqb b (byte "{"))
  where
    go : (x y z : Bool) → emit o (cond x (cond z [] (b ∷ [])) (cond y (cond z (b ∷ []) (a b)) [])) ≡ cond x (cond z o (emit1 o b)) (cond y (cond z (emit1 o b) (emit o (a b))) o)
    go true y true = refl
    go true y false = refl
    go false true true = refl
    go false true false = refl
    go false false z = refl

emit_filled : (a : ℕ → Bytes) (s : ℕ) (o : Out) (t : Bytes) → emit o (filled a s t) ≡ runs a s o t
unfolding filled emit
emit_filled a s o [] = refl
emit_filled a s o (b ∷ t) = rw (emit_append, emit_adds) (emit_filled a (turns s b) (writes a s o b) t)

pub emit_fill : (o : Out) (t a b c d e : Bytes) → emit o (fill t a b c d e) ≡ runs (arg a b c d e) 0 o t
unfolding fill
emit_fill o t a b c d e = emit_filled (arg a b c d e) 0 o t
