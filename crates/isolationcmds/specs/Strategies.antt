-- The strategies that the words of set_isolation and set_isolation_control come to, and which one they mean. Assumes nothing.
use Rattle.std.specs.Prelude.{ℕ, ◌≤◌, ◌≡◌, Bool, List, ◌++◌, map}
use Rattle.text.specs.Ascii.{Bytes, ascii}
use Rattle.spans.specs.Span.{◌⋯◌, pairs}
use Rattle.spans.specs.Reach.{last_of}
use Rattle.spans.specs.declared.span.Span.{Span}
use Rattle.tcl.specs.Arguments.{option_of, name_of}
use Rattle.args.specs.View.{words_from}
use Rattle.model.specs.Scope.{scoped}
use Rattle.model.specs.Records.{Isolation as Isolationʳ}
use Rattle.model.specs.Commands.{or_else, given, replaced, option_list, is_strategy, domain_of, controlled}
use Rattle.store.specs.Strings.{string, span_of}
use Rattle.store.specs.View.{list_below, isolation_of}
use Rattle.store.specs.Order.{of_isolation}
use Rattle.store.specs.declared.stored.Stored.{Stored}
use Rattle.store.specs.declared.state.Isolation.{Isolation}
use Rattle.lists.specs.Values.{Whole}

-- the strategy that the words name, in a scope
unfoldable pub new_strategy : Bytes → List Bytes → Isolationʳ
new_strategy scope ws =
    record {
      name = name_of ws;
      domain = domain_of ws;
      applies_to = option_of (ascii "-applies_to") ws;
      elements = map (scoped scope) (option_list "-elements" ws);
      clamp = or_else (option_of (ascii "-clamp_value") ws) (ascii "0");
      signal = option_of (ascii "-isolation_signal") ws;
      sense = or_else (option_of (ascii "-isolation_sense") ws) (ascii "high");
      power = option_of (ascii "-isolation_power_net") ws;
      ground_net = option_of (ascii "-isolation_ground_net") ws;
    }

-- a strategy with what the words give anew, and with these elements
unfoldable pub renewed : List Bytes → List Bytes → Isolationʳ → Isolationʳ
renewed ws elements s =
    record {
      name = s.name;
      domain = s.domain;
      applies_to = given (option_of (ascii "-applies_to") ws) s.applies_to;
      elements = elements;
      clamp = or_else (option_of (ascii "-clamp_value") ws) s.clamp;
      signal = given (option_of (ascii "-isolation_signal") ws) s.signal;
      sense = or_else (option_of (ascii "-isolation_sense") ws) s.sense;
      power = given (option_of (ascii "-isolation_power_net") ws) s.power;
      ground_net = given (option_of (ascii "-isolation_ground_net") ws) s.ground_net;
    }

-- its elements are those of the words, where they give some
abbrev pub elements_anew : Bytes → List Bytes → List Bytes → List Bytes
elements_anew scope ws old = replaced (map (scoped scope) (option_list "-elements" ws)) old

abbrev pub anew : Bytes → List Bytes → Isolationʳ → Isolationʳ
anew scope ws s = renewed ws (elements_anew scope ws s.elements) s

-- whether a stored strategy is the one of a name and a domain
abbrev pub is_strategy_at : Bytes → Stored → Stored → Isolation → Bool
is_strategy_at mem name domain x = is_strategy (string mem name) (string mem domain) (isolation_of mem x)

-- ---- what the code makes of the words: what it stands for, and that it reaches no further than what it is made of

pub record IsolationIs (mem : Bytes) (words : List ℕ) (n : ℕ) (scope : Stored) (r : Isolation) : Type 0 where
  pub is : isolation_of mem r ≡ new_strategy (string mem scope) (words_from mem words n 1)
  pub within : (e : Span → ℕ) → e (0 ⋯ 0) ≡ 0 → (m : ℕ) → e (span_of scope) ≤ m → last_of e (pairs words 0 n) ≤ m → of_isolation (λ s. e (span_of s)) r ≤ m

pub record RenewedIs (mem : Bytes) (words : List ℕ) (n : ℕ) (x : Isolation) (scope elements : Stored) (r : Isolation) : Type 0 where
  pub is : isolation_of mem r ≡ renewed (words_from mem words n 1) (list_below mem scope elements) (isolation_of mem x)
  pub within : (e : Span → ℕ) → e (0 ⋯ 0) ≡ 0 → (m : ℕ) → of_isolation (λ s. e (span_of s)) x ≤ m → e (span_of scope) ≤ m → e (span_of elements) ≤ m → last_of e (pairs words 0 n) ≤ m → of_isolation (λ s. e (span_of s)) r ≤ m

-- the value of `-elements` is read here, and so is whole
pub record AnewIs (files area : Bytes) (words : List ℕ) (n : ℕ) (scope : Stored) (x r : Isolation) : Type 0 where
  pub is : Whole files area words n → isolation_of (files ++ area) r ≡ anew (string (files ++ area) scope) (words_from (files ++ area) words n 1) (isolation_of (files ++ area) x)
  pub within : (e : Span → ℕ) → e (0 ⋯ 0) ≡ 0 → (m : ℕ) → of_isolation (λ s. e (span_of s)) x ≤ m → e (span_of scope) ≤ m → last_of e (pairs words 0 n) ≤ m → of_isolation (λ s. e (span_of s)) r ≤ m

pub record ControlledIs (mem : Bytes) (words : List ℕ) (n : ℕ) (x r : Isolation) : Type 0 where
  pub is : isolation_of mem r ≡ controlled (words_from mem words n 1) (isolation_of mem x)
  pub within : (e : Span → ℕ) → e (0 ⋯ 0) ≡ 0 → (m : ℕ) → of_isolation (λ s. e (span_of s)) x ≤ m → last_of e (pairs words 0 n) ≤ m → of_isolation (λ s. e (span_of s)) r ≤ m
