-- The worked cases, by computation; and a refusal leaves the area.
-- Assumes nothing.
use mathlib.Core.Path.{refl}
use Rattle.numbers.specs.Tests.{pick, both, either, any_of, between}
use Rattle.numbers.specs.Bytes.{num, bytes_of, starts_with, parts, parts_from}
use Rattle.numbers.specs.Ranges.{individual, nickname_good, vlan_good}
use Rattle.numbers.specs.Result.{check, and_then}
use Rattle.frame.specs.Settings.{addresses_good, seconds_good, numbers_good, later_good, settings_good}
use Rattle.frame.specs.Formats.{frame_length_good}
use Rattle.convert.specs.Expansion.{general_tail}
use Rattle.convert.proofs.Areas.{refused_keeps}
use Rattle.port_map.specs.Maps.{pair_of, pairs_in, good_once, pairs_good, map_good, label_for}
use Rattle.ingress.specs.Ingress.{given_good, hops_good, nicks_good, native_parsed, destination_agrees, header_of, fine_label, fields_for, general_for, judged, ingressing, ingressed}
use Rattle.ingress.specs.Cases.{MapCases}
use Rattle.ingress.specs.Claims.{IngressRefusal}
use Rattle.ingress.proofs.ReadBack.{read_back_lem}

pub map_cases : MapCases
unfolding pick both either any_of between num bytes_of starts_with parts parts_from individual nickname_good vlan_good check and_then addresses_good seconds_good numbers_good later_good settings_good frame_length_good general_tail pair_of pairs_in good_once pairs_good map_good label_for given_good hops_good nicks_good native_parsed destination_agrees header_of fine_label fields_for general_for judged ingressing
map_cases = record { plain = refl; dei = refl; content_cut = refl; tag_cut = refl; no_tag = refl; no_map = refl; cut_number = refl; label_number = refl; pair_number = refl; answer = read_back_lem.0; native = read_back_lem.1 }

pub ingress_refusal : IngressRefusal
unfolding ingressed
ingress_refusal s m u f area n e = refused_keeps (ingressing s m u f) area n e
