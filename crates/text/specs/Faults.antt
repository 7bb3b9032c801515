-- The number, the place and the layer of each fault of a text. Assumes nothing.
use Rattle.std.specs.Prelude.{◌≡◌, ℕ, ◌<◌, ◌≤◌, List, length, Some, None, Option, slice_index}
use Rattle.scale.specs.Faults.{scale_number}
use Rattle.scale.specs.declared.faults.Layer.{Layer}
use Rattle.scale.specs.declared.faults.Layer.TheVariants.{Text, Scale as ScaleLayer}
use Rattle.scale.specs.declared.faults.ScaleFault.{ScaleFault}
use Rattle.scale.specs.declared.faults.ScaleFault.TheVariants.{Unread, NoMark}
use Rattle.text.specs.declared.faults.TextFault.{TextFault}
use Rattle.text.specs.declared.faults.TextFault.TheVariants.{Length, Form, Brackets, Parts, Scale}

-- the number of a text's fault; a scale's fault keeps its own
abbrev pub text_number : TextFault → ℕ
text_number Length = 1
text_number (Form _) = 2
text_number (Brackets _) = 3
text_number (Parts _) = 4
text_number (Scale fault) = scale_number fault

-- the place that a scale's fault blames
abbrev pub scale_place : ScaleFault → Option ℕ
scale_place (Unread at) = Some at
scale_place NoMark = None

-- the byte that a text's fault blames, counted from 0
abbrev pub text_place : TextFault → Option ℕ
text_place Length = None
text_place (Form at) = Some at
text_place (Brackets at) = Some at
text_place (Parts at) = Some at
text_place (Scale fault) = scale_place fault

-- the layer that raised the fault
abbrev pub text_layer : TextFault → Layer
text_layer Length = Text
text_layer (Form _) = Text
text_layer (Brackets _) = Text
text_layer (Parts _) = Text
text_layer (Scale fault) = ScaleLayer

-- where a plain reading can find fault with a text: at a byte or at the end, at an opening bracket, at a byte
abbrev pub Blames : List ℕ → TextFault → Type 0
Blames text Length = ⊥
Blames text (Form at) = at ≤ length text
Blames text (Brackets at) = (at < length text) × (slice_index text at ≡ 40)
Blames text (Parts at) = at < length text
Blames text (Scale fault) = ⊥
