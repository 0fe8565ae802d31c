-- A file and its standard spelling.
use Rattle.std.specs.Prelude.{◌≡◌, List, ℕ, [], ◌∷◌, Some, None, true, false, pos, codes}
use Rattle.sim_values.specs.declared.value.Value.TheVariants as values
use Rattle.sim_values.specs.declared.value.Dimension.TheVariants as dimension
use Rattle.ned_trees.specs.declared.expressions.Expression.TheVariants as expressions
use Rattle.ned_trees.specs.declared.expressions.Sign.TheVariants as signs
use Rattle.ned_trees.specs.declared.declarations.ParameterValue.TheVariants as given
use Rattle.ned_trees.specs.declared.declarations.ParameterWord.TheVariants as words
use Rattle.ned_trees.specs.declared.modes.Mode.TheVariants as modes_are
use Rattle.ned_trees.specs.declared.declarations.SectionLine.TheVariants as lines
use Rattle.ned_trees.specs.declared.declarations.GateDirection.TheVariants as directions
use Rattle.ned_trees.specs.declared.declarations.GateSize.TheVariants as sizes
use Rattle.ned_trees.specs.declared.declarations.GateLine.TheVariants as gate_lines
use Rattle.ned_trees.specs.declared.declarations.TypeKind.TheVariants as kinds
use Rattle.ned_trees.specs.declared.declarations.Submodule.{Submodule}
use Rattle.ned_trees.specs.declared.declarations.SubmoduleType.TheVariants as types_are
use Rattle.ned_trees.specs.declared.connections.Arrow.TheVariants as arrows
use Rattle.ned_trees.specs.declared.connections.Half.TheVariants as halves
use Rattle.ned_trees.specs.declared.connections.GateIndex.TheVariants as indices
use Rattle.ned_trees.specs.declared.connections.Clause.TheVariants as clauses_are
use Rattle.ned_trees.specs.declared.connections.ConnectionItem.TheVariants as items_are
use Rattle.ned_trees.specs.declared.declarations.NestedType.{roll-NestedType}
use Rattle.ned_trees.specs.declared.declarations.NedFile.{NedFile}
use Rattle.ned_syntax.specs.Grammar.{lone, no_connections}
use Rattle.ned_read_back.specs.Declarations.{spelled}

-- a submodule of a type by its name, and nothing more
abbrev pub plain : List ℕ → List ℕ → Submodule
plain text other = record {
  name = text;
  size = None;
  submodule_type = types_are.Named other;
  condition = None;
  body = record { lines = []; gates = [] };
}

-- a simple module with a line and a gate of each kind, one that extends it, a channel, interfaces
-- of both kinds, a network with a line, types of its own, submodules and connections of each kind,
-- and a module
abbrev pub example : NedFile
example = record {
  types =
      lone (record {
        kind = kinds.Simple;
        name = codes "Source";
        base = None;
        interfaces = [];
        lines =
            lines.Declaration (record {
              name = codes "interval";
              word = words.Double;
              unit = Some dimension.Time;
              value = Some (given.Default
                  (expressions.Literal (values.Quantity dimension.Time (pos 1000000000000))));
            })
            ∷ lines.Declaration (record {
              name = codes "offset";
              word = words.Int;
              unit = None;
              value = Some (given.Fixed (expressions.Signed signs.Minus
                  (expressions.Literal (values.Whole (pos 5)))));
            })
            ∷ lines.Assignment (record {
              name = codes "label";
              value = Some (given.Fixed (expressions.Literal (values.Text (codes "a\tb"))));
            })
            ∷ lines.Class (codes "Src")
            ∷ lines.Ignored
            ∷ lines.Statistic (record {
              name = codes "sent";
              source = codes "packetSent";
              modes = record { mode = modes_are.Count; optional = false }
                  ∷ record { mode = modes_are.Sum; optional = true } ∷ [];
            })
            ∷ [];
        gates =
            gate_lines.Declaration (record {
              name = codes "in";
              direction = directions.Input;
              size = sizes.Single;
              loose = true;
            })
            ∷ gate_lines.Declaration (record {
              name = codes "out";
              direction = directions.Output;
              size = sizes.Open;
              loose = false;
            })
            ∷ gate_lines.Declaration (record {
              name = codes "port";
              direction = directions.Inout;
              size = sizes.Sized (expressions.Literal (values.Whole (pos 2)));
              loose = true;
            })
            ∷ [];
        submodules = [];
        connections = no_connections;
      })
      ∷ lone (record {
        kind = kinds.Simple;
        name = codes "Slow";
        base = Some (codes "Source");
        interfaces = codes "Port" ∷ codes "Named" ∷ [];
        lines = [];
        gates =
            gate_lines.Refinement (record {
              name = codes "out";
              size = Some (expressions.Literal (values.Whole (pos 3)));
              loose = false;
            })
            ∷ gate_lines.Refinement (record { name = codes "out"; size = None; loose = true })
            ∷ [];
        submodules = [];
        connections = no_connections;
      })
      ∷ lone (record {
        kind = kinds.Channel;
        name = codes "Wire";
        base = Some (codes "DelayChannel");
        interfaces = codes "Line" ∷ [];
        lines = lines.Assignment (record {
          name = codes "delay";
          value = Some (given.Fixed
              (expressions.Literal (values.Quantity dimension.Time (pos 1000))));
        }) ∷ [];
        gates = [];
        submodules = [];
        connections = no_connections;
      })
      ∷ lone (record {
        kind = kinds.ModuleInterface;
        name = codes "Port";
        base = None;
        interfaces = codes "First" ∷ codes "Second" ∷ [];
        lines = [];
        gates = gate_lines.Declaration (record {
          name = codes "port";
          direction = directions.Inout;
          size = sizes.Open;
          loose = false;
        }) ∷ [];
        submodules = [];
        connections = no_connections;
      })
      ∷ lone (record {
        kind = kinds.ChannelInterface;
        name = codes "Line";
        base = None;
        interfaces =
            [];
        lines = [];
        gates = [];
        submodules = [];
        connections = no_connections;
      })
      ∷ roll-NestedType (record {
        declared = record {
          kind = kinds.Network;
          name = codes "Net";
          base = None;
          interfaces = [];
          lines = lines.Declaration (record {
            name = codes "size";
            word = words.Int;
            unit = None;
            value = Some (given.Fixed (expressions.Literal (values.Whole (pos 2))));
          }) ∷ [];
          gates = [];
          submodules =
              plain (codes "a") (codes "Source")
              ∷ record {
                name = codes "b";
                size = Some (expressions.Literal (values.Whole (pos 2)));
                submodule_type = types_are.Like (record {
                  given =
                      Some (given.Default (expressions.Literal (values.Text (codes "Source"))));
                  interface = codes "Port";
                });
                condition = Some (expressions.Name (codes "on"));
                body = record {
                  lines = lines.Assignment (record {
                    name = codes "offset";
                    value = Some (given.Fixed (expressions.Literal (values.Whole (pos 3))));
                  })
                      ∷ lines.Ignored ∷ [];
                  gates = gate_lines.Refinement (record {
                    name = codes "out";
                    size =
                        Some (expressions.Literal (values.Whole (pos 3)));
                    loose = false;
                  }) ∷ [];
                };
              }
              ∷ [];
          connections = record {
            allow_unconnected = true;
            items =
                items_are.Line (record {
                  connection = record {
                    left = record {
                      owner = Some (record { name = codes "a"; index = None });
                      gate =
                          record { name = codes "out"; half = None; index = Some indices.Next };
                    };
                    arrow = arrows.Right;
                    channel = Some (record {
                      type_name = Some (codes "Wire");
                      lines = lines.Assignment (record {
                        name = codes "delay";
                        value = Some (given.Fixed (expressions.Literal
                            (values.Quantity dimension.Time (pos 5))));
                      }) ∷ [];
                    });
                    right = record {
                      owner = Some (record {
                        name = codes "b";
                        index = Some (expressions.Literal (values.Whole (pos 0)));
                      });
                      gate = record { name = codes "in"; half = None; index = None };
                    };
                  };
                  clauses = [];
                })
                ∷ items_are.Group (record {
                  clauses = clauses_are.For (record {
                    variable = codes "i";
                    first = expressions.Literal (values.Whole (pos 0));
                    last = expressions.Literal (values.Whole (pos 1));
                  })
                      ∷ clauses_are.If (expressions.Name (codes "on")) ∷ [];
                  lines =
                      record {
                        connection = record {
                          left = record {
                            owner = None;
                            gate = record {
                              name = codes "port";
                              half = Some halves.Input;
                              index = Some (indices.At (expressions.Name (codes "i")));
                            };
                          };
                          arrow = arrows.Right;
                          channel = None;
                          right = record {
                            owner = Some (record { name = codes "a"; index = None });
                            gate = record { name = codes "in"; half = None; index = None };
                          };
                        };
                        clauses = [];
                      }
                      ∷ [];
                })
                ∷ [];
          };
        };
        types =
            lone (record {
              kind = kinds.Simple;
              name = codes "Part";
              base = None;
              interfaces = [];
              lines = [];
              gates = [];
              submodules = [];
              connections = no_connections;
            })
            ∷ roll-NestedType (record {
              declared = record {
                kind = kinds.Network;
                name = codes "Pair";
                base = None;
                interfaces = [];
                lines = [];
                gates = [];
                submodules =
                    plain (codes "p") (codes "Half") ∷ [];
                connections = no_connections;
              };
              types = lone
                  (record {
                    kind = kinds.Simple;
                    name = codes "Half";
                    base = None;
                    interfaces = [];
                    lines = [];
                    gates = [];
                    submodules = [];
                    connections = no_connections;
                  }) ∷ [];
            })
            ∷ [];
      })
      ∷ lone (record {
        kind = kinds.Module;
        name = codes "Node";
        base = Some (codes "Base");
        interfaces = [];
        lines = [];
        gates = [];
        submodules = [];
        connections = no_connections;
      })
      ∷ [];
}

abbrev pub example_text : List ℕ
example_text =
    codes "simple Source {\nparameters: double interval @unit(ps) = default(1000000000000ps);\nint offset = - 5;\nlabel = \"a\\tb\";\n@class(Src);\n@ignored;\n@statistic[sent](source = packetSent;\nrecord = count, sum?);\ngates: input in @loose;\noutput out[];\ninout port[2] @loose;\n}\nsimple Slow extends Source like Port, Named {\nparameters: gates: out[3];\nout @loose;\n}\nchannel Wire extends DelayChannel like Line {\nparameters: delay = 1000ps;\n}\nmoduleinterface Port extends First, Second {\nparameters: gates: inout port[];\n}\nchannelinterface Line {\nparameters: }\nnetwork Net {\nparameters: int size = 2;\ntypes: simple Part {\nparameters: }\nnetwork Pair {\nparameters: types: simple Half {\nparameters: }\nsubmodules: p: Half;\n}\nsubmodules: a: Source;\nb[2]: < default(\"Source\") > like Port if on {\nparameters: offset = 3;\n@ignored;\ngates: out[3];\n}\nconnections allowunconnected: a . out ++ --> Wire {\nparameters: delay = 5ps;\n}\n--> b[0] . in;\nfor i = 0 .. 1, if on {\nport $i[i] --> a . in;\n}\n}\nmodule Node extends Base {\nparameters: submodules: }\n"

-- The example is spelled so.
abbrev pub ExampleIsSpelled : Type 0
ExampleIsSpelled = spelled example ≡ example_text
