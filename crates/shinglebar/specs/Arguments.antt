-- The arguments of the C boundary: plain numbers as the settings of a port, as the outer part of an expansion, and as what the caller of
-- ingress gives.
-- Assumes nothing.
use Rattle.std.specs.Prelude.{ℕ}
use Rattle.frame.specs.declared.Settings.{Settings}
use Rattle.convert.specs.Expansion.{Outer}
use Rattle.ingress.specs.declared.Given.{Given}

abbrev pub port_settings_of : ℕ → ℕ → ℕ → ℕ → ℕ → ℕ → ℕ → ℕ → Settings
port_settings_of port inner nickname compact confidence seconds multihomed smart = record {
  port = port;
  inner = inner;
  nickname = nickname;
  compact = compact;
  confidence = confidence;
  seconds = seconds;
  multihomed = multihomed;
  smart = smart;
}

-- the six numbers of document 01; the later two are 0
abbrev pub settings_of : ℕ → ℕ → ℕ → ℕ → ℕ → ℕ → Settings
settings_of port inner nickname compact confidence seconds = port_settings_of port inner nickname compact confidence seconds 0 0

abbrev pub outer_of : ℕ → ℕ → ℕ → Outer
outer_of source tagged tag = record { source = source; tagged = tagged; tag = tag }

abbrev pub given_of : ℕ → ℕ → ℕ → ℕ → ℕ → ℕ → Given
given_of destination source multicast hops egress ingress = record {
  destination = destination;
  source = source;
  multicast = multicast;
  hops = hops;
  egress = egress;
  ingress = ingress;
}
