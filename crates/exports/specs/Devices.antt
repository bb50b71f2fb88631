-- The devices that a table exports, and the interfaces that a device has.
use Rattle.std.specs.Prelude.{List, [], take}
use Rattle.exports.specs.declared.device.Interface.{Interface}
use Rattle.exports.specs.declared.device.Device.{Device}
use Rattle.exports.specs.declared.device.Table.{Table}

-- What is read past the devices of a table.
abbrev pub no_device : Device
no_device =
    record {
      path = [];
      busid = [];
      busnum = 0;
      devnum = 0;
      speed = 0;
      idVendor = 0;
      idProduct = 0;
      bcdDevice = 0;
      bDeviceClass = 0;
      bDeviceSubClass = 0;
      bDeviceProtocol = 0;
      bConfigurationValue = 0;
      bNumConfigurations = 0;
      bNumInterfaces = 0;
      interfaces = [];
    }

-- A table's devices: what stands past its count is none of them.
abbrev pub devices_of : Table → List Device
devices_of t = take t.count t.devices

-- A device's interfaces: what stands past bNumInterfaces is none of them.
abbrev pub interfaces_of : Device → List Interface
interfaces_of d = take d.bNumInterfaces d.interfaces
