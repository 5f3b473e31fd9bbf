-- The wire and the blocks of a domain, by the texts that stand in them; the `always` block in two halves, with the checks between them. Assumes nothing.
use Rattle.std.specs.Prelude.{◌≡◌, refl, List}
use Rattle.text.specs.Ascii.{Bytes}
use Rattle.out.specs.Emit.{Out, emit, ◌⊕◌, emit-⊕}
use Rattle.out.specs.Fill.{turns, arg, pick, writes, format2, format3, format4, emit_fill}
use Rattle.out.specs.Items.{each}
use Rattle.model.specs.Records.{Domain}
use Rattle.texts.specs.Domains.{force, release, Check, check_line, wire, always_block, initial_block}

abbrev pub wire_text : Bytes → Bytes → Bytes → Bytes
wire_text name power ground_net = format3 "  wire upf_pd__{a} = upf__{b} & upf__{c};\n" name power ground_net

-- before the checks
unfoldable pub up_text : Bytes → List Bytes → Bytes
up_text name paths =
    format2 "  always @(upf_pd__{a}) begin\n    if (upf_pd__{a} === 1'b1) begin\n{1}      $display(\"[UPF] Time: %0t, Power domain '{0}' is powered up\", $time);\n    end else begin\n      if ($time != 0) begin\n"
    name (each release paths)

-- behind them
unfoldable pub down_text : Bytes → List Bytes → Bytes
down_text name paths =
    format2 "      end\n{1}      if ($time != 0) $display(\"[UPF] Time: %0t, Power domain '{0}' is powered down\", $time);\n    end\n  end\n"
    name (each force paths)

unfoldable pub initial_text : Bytes → List Bytes → Bytes
initial_text name paths = format2 "  initial begin\n    if (upf_pd__{a} !== 1'b1) begin\n{1}    end\n  end\n" name (each force paths)

-- ---- laws: these are the wire and the blocks

pub wire_is : (d : Domain) (power ground_net : Bytes) → wire d power ground_net ≡ wire_text d.name power ground_net
wire_is d power ground_net = refl

pub initial_is : (d : Domain) (paths : List Bytes) → initial_block d paths ≡ initial_text d.name paths
unfolding initial_block initial_text
initial_is d paths = refl

always_cut : (o : Out) (name rs cs fs : Bytes) → emit o (format2 "  always @(upf_pd__{a}) begin\n    if (upf_pd__{a} === 1'b1) begin\n{1}      $display(\"[UPF] Time: %0t, Power domain '{0}' is powered up\", $time);\n    end else begin\n      if ($time != 0) begin\n" name rs ⊕ cs ⊕ format2 "      end\n{1}      if ($time != 0) $display(\"[UPF] Time: %0t, Power domain '{0}' is powered down\", $time);\n    end\n  end\n" name fs)
    ≡ emit o (format4 "  always @(upf_pd__{a}) begin\n    if (upf_pd__{a} === 1'b1) begin\n{1}      $display(\"[UPF] Time: %0t, Power domain '{0}' is powered up\", $time);\n    end else begin\n      if ($time != 0) begin\n{2}      end\n{3}      if ($time != 0) $display(\"[UPF] Time: %0t, Power domain '{0}' is powered down\", $time);\n    end\n  end\n" name rs cs fs)
unfolding emit writes turns arg pick
always_cut o name rs cs fs = simp (emit-⊕, emit_fill)

-- the `always` block from its halves
pub always_is : (o : Out) (d : Domain) (cs : List Check) (paths : List Bytes) → emit o (up_text d.name paths ⊕ each (check_line d) cs ⊕ down_text d.name paths) ≡ emit o (always_block d cs paths)
unfolding up_text down_text always_block
always_is o d cs paths = always_cut o d.name (each release paths) (each (check_line d) cs) (each force paths)
