-- What the answers of the code say: for each case of an enum, the value that the definitions give.
-- Assumes nothing.
use Rattle.std.specs.Prelude.{ℕ, ◌≡◌, refl, Bool, true, false, cond, not, eqb, [], ◌∷◌, Option, None, Some, unwrap_or}
use Rattle.std.proofs.Common.{sym, ◌∙◌}
use Rattle.std.proofs.lemmas.Bool.{not-false}
use Rattle.text.specs.Sames.{no_true}
use Rattle.text.specs.Ascii.{Bytes}
use Rattle.fields.specs.Fields.{among, Dir, Kind, Style, input, output, inout, ref, undirected, net, variable, odd, body, ansi, nonansi, empty}
use Rattle.fields.specs.declared.Dims.{Dims}
use Rattle.fields.specs.declared.Dims.TheVariants as dims
use Rattle.fields.specs.declared.Dir.{Dir as Dir·code}
use Rattle.fields.specs.declared.Dir.TheVariants as dir
use Rattle.fields.specs.declared.Kind.{Kind as Kind·code}
use Rattle.fields.specs.declared.Kind.TheVariants as kind
use Rattle.fields.specs.declared.Style.{Style as Style·code}
use Rattle.fields.specs.declared.Style.TheVariants as style

abbrev pub dims_is : Dims → Bool
dims_is dims.Zero = false
dims_is dims.One = true

abbrev pub dir_is : Dir·code → Dir
dir_is dir.In = input
dir_is dir.Out = output
dir_is dir.Inout = inout
dir_is dir.Ref = ref
dir_is dir.None = undirected

abbrev pub kind_is : Kind·code → Kind
kind_is kind.Net = net
kind_is kind.Data = variable
kind_is kind.Odd = odd
kind_is kind.In = body input
kind_is kind.Out = body output
kind_is kind.Inout = body inout
kind_is kind.Ref = body ref

-- what a reader's answer says: nothing where the word was none
abbrev pub dims_meant : Option Dims → Option Bool
dims_meant None = None
dims_meant (Some d) = Some (dims_is d)

abbrev pub dir_meant : Option Dir·code → Option Dir
dir_meant None = None
dir_meant (Some d) = Some (dir_is d)

abbrev pub kind_meant : Option Kind·code → Option Kind
kind_meant None = None
kind_meant (Some k) = Some (kind_is k)

-- the kinds of a body port
unfoldable pub body_of : Bytes → Option Kind
body_of w = among (("in", body input) ∷ ("out", body output) ∷ ("inout", body inout) ∷ ("ref", body ref) ∷ []) w

abbrev pub style_is : Style·code → Style
style_is style.Ansi = ansi
style_is style.Nonansi = nonansi
style_is style.Empty = empty

abbrev pub style_meant : Option Style·code → Option Style
style_meant None = None
style_meant (Some s) = Some (style_is s)

-- a style as the number that a module's row has
abbrev pub style_number : Style·code → ℕ
style_number style.Ansi = 0
style_number style.Nonansi = 1
style_number style.Empty = 2

-- the style that a row's number stands for
unfoldable pub style_at : ℕ → Style
style_at n = cond (eqb n 0) ansi (cond (eqb n 1) nonansi empty)

pub style_row : (s : Style·code) → style_at (style_number s) ≡ style_is s
unfolding style_at
style_row style.Ansi = refl
style_row style.Nonansi = refl
style_row style.Empty = refl

abbrev pub is_some : {A : Type 0} → Option A → Bool
is_some None = false
is_some (Some a) = true

-- what is known was read: k is the flag, and the value is read from d whatever z is
pub dims_known : (d : Option Dims) (z : Dims) (k : Bool) → k ≡ is_some (dims_meant d) → not k ≡ false → dims_meant d ≡ Some (dims_is (unwrap_or d z))
dims_known None z k e h = absurd (no_true (sym e ∙ not-false k h))
dims_known (Some d) z k e h = refl

-- the same for DIR
pub dir_known : (d : Option Dir·code) (z : Dir·code) (k : Bool) → k ≡ is_some (dir_meant d) → not k ≡ false → dir_meant d ≡ Some (dir_is (unwrap_or d z))
dir_known None z k e h = absurd (no_true (sym e ∙ not-false k h))
dir_known (Some d) z k e h = refl

-- and for KIND
pub kind_known : (d : Option Kind·code) (z : Kind·code) (k : Bool) → k ≡ is_some (kind_meant d) → not k ≡ false → kind_meant d ≡ Some (kind_is (unwrap_or d z))
kind_known None z k e h = absurd (no_true (sym e ∙ not-false k h))
kind_known (Some d) z k e h = refl
