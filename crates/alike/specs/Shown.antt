-- A kept port as the definitions have it, by its strategy; and laws: below one scope, signals are the same, and in the same order, as they are by themselves.
-- Assumes nothing.
use Rattle.store.specs.declared.state.Few.{Few}
use Rattle.store.specs.declared.state.Isolation.{Isolation}
use Rattle.std.specs.Prelude.{Option, None}
use Rattle.store.specs.declared.stored.Stored.{Stored}
use Rattle.std.specs.Prelude.{ℕ, ◌<◌, ◌≡◌, refl, Bool, false, ◌&&◌, List, [], ◌∷◌, ◌++◌, map, get_or, take, Some}
use Rattle.std.proofs.Common.{sym, ap, ap₂, ◌∙◌, append-nil}
use Rattle.text.specs.Ascii.{Bytes, byte}
use Rattle.text.specs.Compare.{same, less}
use Rattle.text.specs.Sames.{same_refl, same_front, less_front}
use Rattle.text.specs.Classes.{dot_of}
use Rattle.out.specs.Bytewise.{dotted}
use Rattle.spans.specs.Span.{bytes}
use Rattle.names.specs.Name.{name_of}
use Rattle.names.specs.Laws.{dotted_map}
use Rattle.names.specs.declared.name.Name.{Name}
use Rattle.design.specs.Paths.{scope_path, child_path, element_path}
use Rattle.model.specs.Records.{Isolation as Isolationʳ}
use Rattle.model.specs.Commands.{or_else}
use Rattle.store.specs.Strings.{maybe_of}
use Rattle.store.specs.Tables.{table_get}
use Rattle.store.specs.View.{isolation_of}
use Rattle.texts.specs.Setting.{Setting}
use Rattle.texts.specs.Isolation.{Isolated, Target, lowered, active_of, key_of, isolated_by, alike}
use Rattle.format.specs.Args.{rooted}
use Rattle.isolated.specs.Table.{Kept, kept}
use Rattle.alike.specs.Strategies.{no_isolation, strategy_at, signal_name, signal_of, are_alike, isolation_at}

-- ---- a kept port, below the scope, from the top on; f has the strategies by their numbers
abbrev pub shown_by : List Bytes → Bytes → Isolationʳ → Kept → Isolated
shown_by scope top i k =
    record {
      strategy = i.name;
      port = rooted top scope k.key;
      parent = element_path scope k.net;
      clamp = lowered i.clamp;
      signal = element_path scope (signal_of i);
      active = active_of i;
    }

abbrev pub shown : List Bytes → Bytes → (ℕ → Isolationʳ) → Kept → Isolated
shown scope top f k = shown_by scope top (f k.strategy) k

-- as the definitions make it
pub shown_by_lem : (s : Setting) (f : ℕ → Isolationʳ) (n : ℕ) (i : Isolationʳ) (sig : Bytes) → f n ≡ i → i.signal ≡ Some sig → (t : Target) (w : Bytes) → shown s.scope s.top f (kept n (key_of t) w) ≡ isolated_by s i sig t w
shown_by_lem s f n i sig e g t w = rw (e, g)

-- a strategy by its number in the list of those that are there
pub strategy_in : (mem : Bytes) (t : Few Isolation) (i : ℕ) → i < t.n → get_or (map (isolation_of mem) (take t.n t.all)) i (isolation_of mem no_isolation) ≡ strategy_at mem t i
strategy_in mem t i h = table_get (isolation_of mem) t.all t.n i no_isolation h

-- ---- signals

pub signal_text_lem : (mem : Bytes) (m : Option Stored) → name_of mem (signal_name m) ≡ or_else (maybe_of mem m) []
unfolding name_of bytes
signal_text_lem mem None = refl
signal_text_lem mem (Some s) = refl

-- the signal of a strategy of the table
pub signal_read : (mem : Bytes) (t : Few Isolation) (k : ℕ) (x : Name) → x ≡ signal_name (isolation_at t k).signal → name_of mem x ≡ signal_of (strategy_at mem t k)
unfolding isolation_of
signal_read mem t k x e = rw e (signal_text_lem mem (isolation_at t k).signal)

-- a name below a path
abbrev below : Bytes → Bytes → Bytes
below p [] = p
below p (b ∷ e) = child_path p (map dot_of (b ∷ e))

element_below : (scope : List Bytes) (e : Bytes) → element_path scope e ≡ below (scope_path scope) e
element_below scope [] = refl
element_below scope (b ∷ e) = refl

below_same : (p a b : Bytes) → same (below p a) (below p b) ≡ same (map dot_of a) (map dot_of b)
unfolding same
below_same [] [] [] = refl
below_same [] [] (y ∷ b) = refl
below_same [] (x ∷ a) [] = refl
below_same [] (x ∷ a) (y ∷ b) = refl
below_same (c ∷ p) [] [] = same_refl (c ∷ p)
below_same (c ∷ p) [] (y ∷ b) = ap (λ (l : Bytes). same l ((c ∷ p) ++ (byte "." ∷ map dot_of (y ∷ b)))) (sym (append-nil (c ∷ p))) ∙ same_front (c ∷ p) (c ∷ p) [] (byte "." ∷ map dot_of (y ∷ b)) (same_refl (c ∷ p))
below_same (c ∷ p) (x ∷ a) [] = ap (same ((c ∷ p) ++ (byte "." ∷ map dot_of (x ∷ a)))) (sym (append-nil (c ∷ p))) ∙ same_front (c ∷ p) (c ∷ p) (byte "." ∷ map dot_of (x ∷ a)) [] (same_refl (c ∷ p))
below_same (c ∷ p) (x ∷ a) (y ∷ b) = same_front (c ∷ p) (c ∷ p) (byte "." ∷ map dot_of (x ∷ a)) (byte "." ∷ map dot_of (y ∷ b)) (same_refl (c ∷ p))

less_none : (p : Bytes) → less p p ≡ false
unfolding less
less_none p = ap₂ less (sym (append-nil p)) (sym (append-nil p)) ∙ less_front p p [] [] (same_refl p)

below_less : (p a b : Bytes) → less (below p a) (below p b) ≡ less (map dot_of a) (map dot_of b)
unfolding less
below_less [] [] [] = refl
below_less [] [] (y ∷ b) = refl
below_less [] (x ∷ a) [] = refl
below_less [] (x ∷ a) (y ∷ b) = refl
below_less (c ∷ p) [] [] = less_none (c ∷ p)
below_less (c ∷ p) [] (y ∷ b) = ap (λ (l : Bytes). less l ((c ∷ p) ++ (byte "." ∷ map dot_of (y ∷ b)))) (sym (append-nil (c ∷ p))) ∙ less_front (c ∷ p) (c ∷ p) [] (byte "." ∷ map dot_of (y ∷ b)) (same_refl (c ∷ p))
below_less (c ∷ p) (x ∷ a) [] = ap (less ((c ∷ p) ++ (byte "." ∷ map dot_of (x ∷ a)))) (sym (append-nil (c ∷ p))) ∙ less_front (c ∷ p) (c ∷ p) (byte "." ∷ map dot_of (x ∷ a)) [] (same_refl (c ∷ p))
below_less (c ∷ p) (x ∷ a) (y ∷ b) = less_front (c ∷ p) (c ∷ p) (byte "." ∷ map dot_of (x ∷ a)) (byte "." ∷ map dot_of (y ∷ b)) (same_refl (c ∷ p))

-- below any scope
pub scope_same : (scope : List Bytes) (a b : Bytes) → same (element_path scope a) (element_path scope b) ≡ same (dotted a) (dotted b)
scope_same scope a b = rw (element_below scope a, element_below scope b, dotted_map a, dotted_map b) (below_same (scope_path scope) a b)

pub scope_less : (scope : List Bytes) (a b : Bytes) → less (element_path scope a) (element_path scope b) ≡ less (dotted a) (dotted b)
scope_less scope a b = rw (element_below scope a, element_below scope b, dotted_map a, dotted_map b) (below_less (scope_path scope) a b)

-- ---- two ports are alike where their strategies are
pub shown_alike : (scope : List Bytes) (top : Bytes) (i j : Isolationʳ) (p q : Kept) → alike (shown_by scope top i p) (shown_by scope top j q) ≡ are_alike i j
unfolding are_alike
shown_alike scope top i j p q = ap (λ (b : Bool). b && same (active_of i) (active_of j)) (scope_same scope (signal_of i) (signal_of j))
